-- What moves, the event, and the parts.
use Rattle.std.proofs.Common.{[], ◌∷◌, ◌++◌, map}
use Rattle.std.specs.Prelude.{codes}
use Rattle.theory_origins.specs.Doers.{doers}
use Rattle.theory_explanation.specs.Actions.{event_text}
use Rattle.theory_objects.specs.Accounts.{doers_fields, moved_fields}
use Rattle.theory_objects.specs.Fields.{text_field}
use Rattle.csp_value.specs.Action.{event_of}
use Rattle.csp_moves.specs.Origin.{origin_of}
use Rattle.csp_moves.specs.Passage.{side_of}
use Rattle.csp_print.specs.Names.{names_of}
use Rattle.explanation_objects.proofs.Putting.{both}
use Rattle.explanation_objects.proofs.origins.put_done.Goals as goal

pub returns : goal.returns
returns g c =
    let names = names_of c.args.names.now in
    let way = map side_of c.args.way.now in
    let r = c.put_doers.result in
    let one = c.put_moved.new.writer in
    let two = c.put_event.new.writer in
    let new = c.put_doers.new.writer in
    let moved = moved_fields way c.args.kind.now in
    let event = text_field (codes "event") (event_text names (event_of c.args.event.now)) ∷ [] in
    let parts = doers_fields names way (doers (origin_of c.args.origin.now)) in
    both r c.args.writer.now one new moved (event ++ parts) c.in_ok-put_moved.ensures (both r one two new event parts c.in_ok-put_event.ensures c.put_doers.ensures)
