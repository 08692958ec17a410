-- The name, and the texts in brackets.
use Rattle.std.proofs.Common.{map}
use Rattle.theory_semantics.specs.Meaning.Runs.{trace}
use Rattle.theory_objects.specs.Answers.{action_texts}
use Rattle.csp_value.specs.Action.{action_of}
use Rattle.csp_print.specs.Names.{names_of}
use Rattle.explanation_objects.proofs.Putting.{listed}
use Rattle.explanation_objects.proofs.actions.put_trace.Goals as goal

pub returns : goal.returns
returns g c =
    listed c.end_array.result c.args.writer.now c.key.new.self c.begin_array.new.self c.put_seen.new.writer c.end_array.new.self c.args.name.now (action_texts (names_of c.args.names.now) (trace (map action_of c.args.path.now)))
    (c.in_ok-key.ensures.room.0, c.in_ok-key.ensures.ok) (c.in_ok-begin_array.ensures.room.0, c.in_ok-begin_array.ensures.ok) c.in_ok-put_seen.ensures c.end_array.ensures
