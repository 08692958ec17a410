use Rattle.std.proofs.Common.{arith, subst}
use Rattle.std.proofs.lemmas.List.{take_all}
use Rattle.std.specs.Prelude.{IsSome}
use Rattle.std.specs.List.{AllByRecursion}
use Rattle.csp_rows.specs.declared.step.Step.{Step}
use Rattle.csp_rows.proofs.Keeping.{all_kept}
use Rattle.csp_rows.proofs.step.keep_shape.Goals as goal

pub returns-clause-kept : goal.returns-clause-kept
returns-clause-kept c = λ all z pool.
    all_kept z pool c.args.steps.now
    (subst (AllByRecursion (λ (s : Step). IsSome s.changes)) (take_all c.loop-step.step-index c.args.steps.now (omega (arith, c.loop-step-test.false))) c.loop-step.invariant)
