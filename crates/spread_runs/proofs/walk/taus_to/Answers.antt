-- One tau more, or the target.
use Rattle.std.proofs.Common.{Option, IfSome, subst, inl, inr, lit<, lit≤}
use Rattle.theory_syntax.specs.Value.{Tau}
use Rattle.theory_semantics.specs.Kinds.Scripts.{IsTermOf}
use Rattle.csp_term.specs.Script.{script_of}
use Rattle.csp_term.specs.Term.{process_of}
use Rattle.csp_term.specs.declared.term.Term.{Term}
use Rattle.spread_runs.specs.Toward.{LeadsTo}
use Rattle.spread_runs.proofs.Walking.{one_more, stays}
use Rattle.spread_runs.proofs.walk.taus_to.Goals as goal

pub loop-init : goal.loop-init
loop-init g c = stays g.row.A.Denot (script_of c.args.written.now) c.args.walk c.requires.closed

pub returns-then-equal_terms : goal.returns-then-equal_terms
returns-then-equal_terms g c = record { on = c.loop.invariant; there = c.equal_terms.ensures.0 c.if-equal_terms.true }

pub term_toward-requires : goal.term_toward-requires
term_toward-requires g c =
    let closed : IsTermOf (script_of c.args.written.now) (process_of c.loop.walk.here) = c.loop.invariant.closed in
    elim g.met.A.AllocHandle.small [ inl e ↦ rw (e.0, e.1) (search (lit≤, closed)) | inr e ↦ rw (e.0, e.1) (search (lit≤, closed)) ]

pub loop-preserved : goal.loop-preserved
loop-preserved g c =
    let written = script_of c.args.written.now in
    let here = process_of c.loop.walk.here in
    let O : Option (Term g.row.A.Denot) → Type 0 = λ o. IfSome o (LeadsTo written here Tau) in
    let leads = subst O c.in-Some.is c.in_ok-found.ensures in
    one_more g.row.A.Denot written c.args.walk c.loop.walk c.in_ok-walk.walk (process_of c.in-Some.next) c.loop.invariant c.in_ok-walk.ensures leads.0 leads.1

pub one_on-requires : goal.one_on-requires
one_on-requires g c = elim g.met.A.AllocHandle.small [ inl e ↦ rw (e.0, e.1) (search (lit≤, lit<)) | inr e ↦ rw (e.0, e.1) (search (lit≤, lit<)) ]

pub drop-walk-requires-room-T-Destruct : goal.drop-walk-requires-room-T-Destruct
drop-walk-requires-room-T-Destruct g c κs within = elim g.met.A.AllocHandle.small [ inl e ↦ rw (e.0, e.1) (lit< tt) | inr e ↦ rw (e.0, e.1) (lit< tt) ]

pub drop-walk-requires-in_default-room-T-Destruct : goal.drop-walk-requires-in_default-room-T-Destruct
drop-walk-requires-in_default-room-T-Destruct g c κs within = elim g.met.A.AllocHandle.small [ inl e ↦ rw (e.0, e.1) (lit< tt) | inr e ↦ rw (e.0, e.1) (lit< tt) ]

pub drop-walk-requires-2-room-T-Destruct : goal.drop-walk-requires-2-room-T-Destruct
drop-walk-requires-2-room-T-Destruct g c κs within = elim g.met.A.AllocHandle.small [ inl e ↦ rw (e.0, e.1) (lit< tt) | inr e ↦ rw (e.0, e.1) (lit< tt) ]

pub drop-walk-requires-then-is_larger-room-T-Destruct : goal.drop-walk-requires-then-is_larger-room-T-Destruct
drop-walk-requires-then-is_larger-room-T-Destruct g c κs within = elim g.met.A.AllocHandle.small [ inl e ↦ rw (e.0, e.1) (lit< tt) | inr e ↦ rw (e.0, e.1) (lit< tt) ]
