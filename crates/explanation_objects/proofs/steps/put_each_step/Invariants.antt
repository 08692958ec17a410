use Rattle.std.proofs.Common.{◌≡◌, ◌++◌, drop, map}
use Rattle.theory_objects.specs.Accounts.{step_fields}
use Rattle.csp_print.specs.Names.{names_of}
use Rattle.explanation_objects.specs.Putting.{objects_tokens}
use Rattle.explanation_objects.specs.Steps.{steps_of}
use Rattle.explanation_objects.proofs.steps.put_each_step.Given as goal

abbrev pub invariant-loop-place : goal.invariant-loop-place
invariant-loop-place g l =
    (l.writer.before ≡ l.initial.writer.before)
    × (l.writer.tokens ++ objects_tokens (map (step_fields (names_of l.names)) (drop l.place (steps_of l.path l.states l.origins))) ≡ l.initial.writer.tokens ++ objects_tokens (map (step_fields (names_of l.names)) (steps_of l.path l.states l.origins)))
