use Rattle.std.proofs.Common.{◌≡◌, ◌++◌, [], drop, map}
use Rattle.theory_objects.specs.Accounts.{part_fields}
use Rattle.csp_print.specs.Names.{names_of}
use Rattle.counterexample.specs.Counterexample.{waiting_of}
use Rattle.explanation_objects.specs.Putting.{objects_tokens}
use Rattle.explanation_objects.proofs.waiting.put_each_part.Given as goal

abbrev pub invariant-loop-part : goal.invariant-loop-part
invariant-loop-part g l =
    (l.writer.before ≡ l.initial.writer.before)
    × (l.writer.tokens ++ objects_tokens (map (part_fields (names_of l.names)) (map waiting_of (drop l.part-index l.parts))) ≡ l.initial.writer.tokens ++ objects_tokens (map (part_fields (names_of l.names)) (map waiting_of l.parts)))
