-- What a term within the limits is settled to, if that is within them.
use Rattle.std.proofs.Common.{◌≡◌, sym, ◌∙◌, ap, subst}
use Rattle.theory_semantics.specs.Meaning.Limits.{fits}
use Rattle.theory_semantics.specs.Meaning.Unfolding.{settled}
use Rattle.csp_term.specs.Script.{script_of_parts}
use Rattle.csp_term.specs.Term.{process_of}
use Rattle.csp_settling.specs.declared.unfolded.Unfolded.{Unfolded}
use Rattle.csp_settling.specs.Settling.{TellsUnfolded}
use Rattle.csp_steps.specs.Answering.{within_limits}
use Rattle.csp_steps.proofs.Targets.{is_past, is_within}
use Rattle.csp_steps.proofs.rules.settled.settled_term.Goals as goal

pub returns-in-Same : goal.returns-in-Same
returns-in-Same g c fit =
    let p = process_of c.args.term in
    let v = settled (script_of_parts c.args.script.now) p in
    let U : Unfolded g.row.A.Denot → Type 0 = λ x. TellsUnfolded p v x in
    is_within p fit ∙ ap within_limits (sym (subst U c.in-Same.is c.in_ok-unfolded.ensures))

pub returns-in-To : goal.returns-in-To
returns-in-To g c fit =
    let p = process_of c.args.term in
    let v = settled (script_of_parts c.args.script.now) p in
    let U : Unfolded g.row.A.Denot → Type 0 = λ x. TellsUnfolded p v x in
    c.within.ensures ∙ ap within_limits (subst U c.in-To.is c.in_ok-unfolded.ensures)

pub returns-in-Past : goal.returns-in-Past
returns-in-Past g c fit =
    let p = process_of c.args.term in
    let v = settled (script_of_parts c.args.script.now) p in
    let U : Unfolded g.row.A.Denot → Type 0 = λ x. TellsUnfolded p v x in
    is_past v (subst U c.in-Past.is c.in_ok-unfolded.ensures)
