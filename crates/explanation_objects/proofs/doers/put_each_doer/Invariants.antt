use Rattle.std.proofs.Common.{◌≡◌, ◌++◌, [], drop, map}
use Rattle.theory_objects.specs.Accounts.{doer_fields}
use Rattle.csp_print.specs.Names.{names_of}
use Rattle.counterexample.specs.Doers.{doers_listed}
use Rattle.explanation_objects.specs.Putting.{objects_tokens}
use Rattle.explanation_objects.proofs.doers.put_each_doer.Given as goal

abbrev pub invariant-loop-part : goal.invariant-loop-part
invariant-loop-part g l =
    (l.writer.before ≡ l.initial.writer.before)
    × (l.writer.tokens ++ objects_tokens (map (doer_fields (names_of l.names) []) (doers_listed (drop l.part-index l.parts))) ≡ l.initial.writer.tokens ++ objects_tokens (map (doer_fields (names_of l.names) []) (doers_listed l.parts)))
