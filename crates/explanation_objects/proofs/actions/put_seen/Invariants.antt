use Rattle.std.proofs.Common.{◌≡◌, ◌++◌, drop, map}
use Rattle.theory_semantics.specs.Meaning.Runs.{trace}
use Rattle.theory_objects.specs.Answers.{action_texts}
use Rattle.csp_value.specs.Action.{action_of}
use Rattle.csp_print.specs.Names.{names_of}
use Rattle.explanation_objects.specs.Putting.{string_tokens}
use Rattle.explanation_objects.proofs.actions.put_seen.Given as goal

abbrev pub invariant-loop-action : goal.invariant-loop-action
invariant-loop-action g l =
    (l.writer.before ≡ l.initial.writer.before)
    × (l.writer.tokens ++ string_tokens (action_texts (names_of l.names) (trace (map action_of (drop l.action-index l.path)))) ≡ l.initial.writer.tokens ++ string_tokens (action_texts (names_of l.names) (trace (map action_of l.path))))
