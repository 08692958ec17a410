-- A script read by tau settles nothing, and one read at once unfolds a term that stands in the body of no call.
use Rattle.std.proofs.Common.{refl, sym, ◌∙◌, ap}
use Rattle.theory_syntax.specs.Models.{unfolding_of}
use Rattle.theory_semantics.specs.Meaning.Unfolding.{most_unfoldings, settled_by, settled_within}
use Rattle.csp_term.specs.Script.{script_of_parts}
use Rattle.csp_term.specs.Term.{process_of}
use Rattle.csp_settling.specs.Settling.{call_of}
use Rattle.csp_settling.proofs.Unfolding.{told_of}
use Rattle.csp_settling.proofs.settling.settle.Goals as goal

pub returns-in-AtOnce : goal.returns-in-AtOnce
returns-in-AtOnce g c =
    let s = script_of_parts c.args.script.now in
    let p = process_of c.args.term.now in
    told_of p p _ _ c.unfold.result refl (ap (λ u. settled_by (unfolding_of u) s p) c.in-AtOnce.is ∙ ap (λ o. settled_within most_unfoldings s (call_of o) p) (sym c.no_call.ensures)) c.unfold.ensures
