-- The condition is what is seen of it.
use Rattle.std.proofs.Common.{Bool, Result, sym, ◌∙◌, ap, subst}
use Rattle.theory_semantics.specs.Meaning.Evaluation.{Cause, ◌and_then◌}
use Rattle.theory_semantics.specs.Meaning.Events.{truth_of}
use Rattle.csp_settling.specs.Arguments.{Decides}
use Rattle.csp_settling.proofs.truth.condition.Goals as goal

pub returns : goal.returns
returns g c =
    let is = ap (λ r. r and_then λ v. truth_of v) c.in_ok-seen.ensures ∙ ap truth_of (sym c.value.ensures) in
    let P : Result Bool Cause → Type 0 = λ r. Decides c.truth_of.result r in
    subst P (sym is) c.truth_of.ensures
