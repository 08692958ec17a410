use Rattle.std.proofs.Common.{◌≡◌, ◌++◌, drop, map}
use Rattle.theory_objects.specs.Accounts.{step_fields, taus_of}
use Rattle.csp_print.specs.Names.{names_of}
use Rattle.explanation_objects.specs.Putting.{objects_tokens}
use Rattle.explanation_objects.specs.Steps.{loop_through}
use Rattle.explanation_objects.proofs.loops.put_each_tau.Given as goal

abbrev pub invariant-loop-place : goal.invariant-loop-place
invariant-loop-place g l =
    (l.writer.before ≡ l.initial.writer.before)
    × (l.writer.tokens ++ objects_tokens (map (step_fields (names_of l.names)) (drop l.place (taus_of (loop_through l.states l.back l.origins)))) ≡ l.initial.writer.tokens ++ objects_tokens (map (step_fields (names_of l.names)) (taus_of (loop_through l.states l.back l.origins))))
