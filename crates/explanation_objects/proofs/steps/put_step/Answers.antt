-- What is done, the state and the origin, in braces.
use Rattle.std.proofs.Common.{[], ◌∷◌, ◌++◌, option_map}
use Rattle.std.specs.Prelude.{codes}
use Rattle.theory_notation.specs.Processes.{process_text}
use Rattle.theory_explanation.specs.Actions.{action_text}
use Rattle.theory_objects.specs.Accounts.{origin_told, step_fields}
use Rattle.theory_objects.specs.Fields.{text_field}
use Rattle.csp_value.specs.Action.{action_of}
use Rattle.csp_term.specs.Term.{process_of}
use Rattle.csp_moves.specs.Origin.{origin_of}
use Rattle.csp_print.specs.Names.{names_of}
use Rattle.explanation_objects.specs.Steps.{step_of}
use Rattle.explanation_objects.proofs.Objects.{in_braces}
use Rattle.explanation_objects.proofs.Putting.{put_both}
use Rattle.explanation_objects.proofs.steps.put_step.Goals as goal

pub returns : goal.returns
returns g c =
    let names = names_of c.args.names.now in
    let one = c.begin_object.new.self in
    let two = c.put_action.new.writer in
    let three = c.put_term.new.writer in
    let four = c.put_origin_told.new.writer in
    let action = text_field (codes "action") (action_text names (action_of c.args.action.now)) ∷ [] in
    let state = text_field (codes "state") (process_text names (process_of c.args.state.now)) ∷ [] in
    let told = origin_told names (option_map origin_of c.args.origin.now) in
    in_braces c.end_object.result c.args.writer.now one four c.end_object.new.self (step_fields names (step_of c.args.action.now c.args.state.now c.args.origin.now)) (c.in_ok-begin_object.ensures.room.0, c.in_ok-begin_object.ensures.ok)
    (put_both one two four action (state ++ told) c.in_ok-put_action.ensures (put_both two three four state told c.in_ok-put_term.ensures c.in_ok-put_origin_told.ensures)) c.end_object.ensures
