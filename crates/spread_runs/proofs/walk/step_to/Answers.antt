-- A step, and the taus behind it.
use Rattle.std.proofs.Common.{Option, IfSome, sym, subst}
use Rattle.theory_syntax.specs.Value as pure
use Rattle.theory_semantics.specs.Kinds.Scripts.{IsTermOf}
use Rattle.csp_value.specs.Action.{action_of}
use Rattle.csp_term.specs.Script.{script_of}
use Rattle.csp_term.specs.Term.{process_of}
use Rattle.csp_term.specs.declared.term.Term.{Term}
use Rattle.spread_runs.specs.Toward.{LeadsTo}
use Rattle.spread_runs.specs.Walk.{IsOneOn}
use Rattle.spread_runs.proofs.Walking.{gone_by}
use Rattle.spread_runs.proofs.walk.step_to.Goals as goal

pub taus_to-requires : goal.taus_to-requires
taus_to-requires g c =
    let written = script_of c.args.written.now in
    let O : Option (Term g.row.A.Denot) → Type 0 = λ o. IfSome o (LeadsTo written (process_of c.args.walk.here) (action_of c.args.action.now)) in
    let leads = subst O c.in-Some.is c.in_ok-found.ensures in
    let closed : IsTermOf written (process_of c.in_ok-gone.gone.here) = subst (IsTermOf written) (sym c.in_ok-gone.ensures.here) leads.1 in
    record { closed = closed }

pub returns : goal.returns
returns g c =
    let written = script_of c.args.written.now in
    let O : Option (Term g.row.A.Denot) → Type 0 = λ o. IfSome o (LeadsTo written (process_of c.args.walk.here) (action_of c.args.action.now)) in
    let leads = subst O c.in-Some.is c.in_ok-found.ensures in
    let X : pure.Action → Type 0 = λ x. IsOneOn x (process_of c.in-Some.next) c.args.walk c.in_ok-gone.gone in
    gone_by g.row.A.Denot written c.args.walk c.in_ok-gone.gone (action_of c.args.action.now) (process_of c.in-Some.next) (process_of c.args.target.now) (subst X c.in_ok-done.ensures c.in_ok-gone.ensures) leads.0
    c.taus_to.result c.taus_to.ensures
