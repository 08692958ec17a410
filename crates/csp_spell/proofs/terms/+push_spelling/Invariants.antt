use Rattle.std.proofs.Common.{◌+◌, ◌*◌}
use Rattle.theory_syntax.specs.Process.{AlphabetisedParallel, GeneralisedParallel, Guard, Hiding, If, Prefix, Renaming, SlidingChoice}
use Rattle.theory_syntax.specs.Operators.{binary_process, replicated_process}
use Rattle.theory_semantics.specs.Meaning.Limits.{size}
use Rattle.csp_events.specs.Events.{event_set_of, renaming_pairs_of}
use Rattle.csp_expression.specs.Expression.{expression_of}
use Rattle.csp_term.specs.Field.{fields_of}
use Rattle.csp_term.specs.Term.{process_of, process_of_form}
use Rattle.csp_spell.proofs.terms.+push_spelling.Given as goal

abbrev pub decreases-push_spelling : goal.decreases-push_spelling
decreases-push_spelling g l = 3 * size (process_of l.term.now) + 2

abbrev pub decreases-push_form : goal.decreases-push_form
decreases-push_form g l = 3 * size (process_of_form l.form.now) + 1

abbrev pub decreases-push_prefix : goal.decreases-push_prefix
decreases-push_prefix g l = 3 * size (Prefix l.channel.0 (fields_of l.fields.now) (process_of l.body.now))

abbrev pub decreases-push_guard : goal.decreases-push_guard
decreases-push_guard g l = 3 * size (Guard (expression_of l.condition.now) (process_of l.body.now))

abbrev pub decreases-push_if : goal.decreases-push_if
decreases-push_if g l = 3 * size (If (expression_of l.condition.now) (process_of l.first.now) (process_of l.second.now))

abbrev pub decreases-push_binary : goal.decreases-push_binary
decreases-push_binary g l = 3 * size (binary_process l.operator (process_of l.left.now) (process_of l.right.now))

abbrev pub decreases-push_generalised : goal.decreases-push_generalised
decreases-push_generalised g l = 3 * size (GeneralisedParallel (process_of l.left.now) (event_set_of l.shared.now) (process_of l.right.now))

abbrev pub decreases-push_alphabetised : goal.decreases-push_alphabetised
decreases-push_alphabetised g l = 3 * size (AlphabetisedParallel (process_of l.left.now) (event_set_of l.own.now) (event_set_of l.other.now) (process_of l.right.now))

abbrev pub decreases-push_hiding : goal.decreases-push_hiding
decreases-push_hiding g l = 3 * size (Hiding (process_of l.body.now) (event_set_of l.hidden.now))

abbrev pub decreases-push_renaming : goal.decreases-push_renaming
decreases-push_renaming g l = 3 * size (Renaming (process_of l.body.now) (renaming_pairs_of l.pairs.now))

abbrev pub decreases-push_replicated : goal.decreases-push_replicated
decreases-push_replicated g l = 3 * size (replicated_process l.operator l.name.0 (expression_of l.set.now) (process_of l.body.now))

abbrev pub decreases-push_sliding : goal.decreases-push_sliding
decreases-push_sliding g l = 3 * size (SlidingChoice (process_of l.left.now) (process_of l.right.now))
