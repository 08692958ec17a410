-- The way, and the event, in braces.
use Rattle.std.proofs.Common.{List, [], ◌∷◌, map, ap, subst, inl, inr, lit<, lit≤}
use Rattle.std.specs.Prelude.{codes}
use Rattle.theory_explanation.specs.Actions.{event_text}
use Rattle.theory_objects.specs.Accounts.{doer_fields, way_field}
use Rattle.theory_objects.specs.Fields.{field_tokens, text_field}
use Rattle.csp_value.specs.Action.{event_of}
use Rattle.csp_moves.specs.Passage.{side_of}
use Rattle.csp_moves.specs.declared.passage.Side.{Side}
use Rattle.csp_print.specs.Names.{names_of}
use Rattle.counterexample.specs.Doers.{doer_of}
use Rattle.explanation_objects.proofs.Objects.{in_braces}
use Rattle.explanation_objects.proofs.Putting.{HasPut, put_both}
use Rattle.explanation_objects.proofs.doers.put_doer.Goals as goal

pub returns : goal.returns
returns g c =
    let names = names_of c.args.names.now in
    let part = c.args.part.now in
    let one = c.begin_object.new.self in
    let two = c.put_way.new.writer in
    let three = c.put_event.new.writer in
    let W : List Side → Type 0 = λ w. HasPut one two (field_tokens (way_field (map side_of w) ∷ [])) in
    let way = subst W c.deref.ensures.value c.in_ok-put_way.ensures in
    let event = text_field (codes "event") (event_text names (event_of part.event.now)) ∷ [] in
    in_braces c.end_object.result c.args.writer.now one three c.end_object.new.self (doer_fields names [] (doer_of part)) (c.in_ok-begin_object.ensures.room.0, c.in_ok-begin_object.ensures.ok)
    (put_both one two three (way_field (map side_of part.way.items) ∷ []) event way c.in_ok-put_event.ensures) c.end_object.ensures

pub put_event-requires : goal.put_event-requires
put_event-requires g c = elim g.met.A.AllocHandle.small [ inl e ↦ rw (e.0, e.1) (search (lit≤, lit<)) | inr e ↦ rw (e.0, e.1) (search (lit≤, lit<)) ]
