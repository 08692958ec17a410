-- The way, the part, and what it can do, in braces.
use Rattle.std.proofs.Common.{List, [], ◌∷◌, ◌++◌, map, ap, subst, inl, inr, lit<, lit≤}
use Rattle.std.specs.Prelude.{codes}
use Rattle.theory_notation.specs.Processes.{process_text}
use Rattle.theory_objects.specs.Accounts.{part_fields, way_field}
use Rattle.theory_objects.specs.Answers.{action_texts}
use Rattle.theory_objects.specs.Fields.{field_tokens, text_field, texts_field}
use Rattle.csp_value.specs.Action.{action_of}
use Rattle.csp_value.specs.declared.action.Action.{Action}
use Rattle.csp_term.specs.Term.{process_of}
use Rattle.csp_moves.specs.Passage.{side_of}
use Rattle.csp_moves.specs.declared.passage.Side.{Side}
use Rattle.csp_print.specs.Names.{names_of}
use Rattle.counterexample.specs.Counterexample.{waiting_of}
use Rattle.explanation_objects.proofs.Objects.{in_braces}
use Rattle.explanation_objects.proofs.Putting.{HasPut, put_both}
use Rattle.explanation_objects.proofs.waiting.put_part.Goals as goal

pub returns : goal.returns
returns g c =
    let names = names_of c.args.names.now in
    let part = c.args.part.now in
    let one = c.begin_object.new.self in
    let two = c.put_way.new.writer in
    let three = c.put_term.new.writer in
    let four = c.put_actions.new.writer in
    let W : List Side → Type 0 = λ w. HasPut one two (field_tokens (way_field (map side_of w) ∷ [])) in
    let way = subst W c.deref.ensures.value c.in_ok-put_way.ensures in
    let process = text_field (codes "process") (process_text names (process_of part.process)) ∷ [] in
    let initials = λ (xs : List (Action g.row.A.Denot)). texts_field (codes "initials") (action_texts names (map action_of xs)) ∷ [] in
    let can = subst (λ (xs : List (Action g.row.A.Denot)). HasPut three four (field_tokens (initials xs))) c.deref-2.ensures.value c.in_ok-put_actions.ensures in
    in_braces c.end_object.result c.args.writer.now one four c.end_object.new.self (part_fields names (waiting_of part)) (c.in_ok-begin_object.ensures.room.0, c.in_ok-begin_object.ensures.ok)
    (put_both one two four (way_field (map side_of part.way.items) ∷ []) (process ++ initials part.initials.items) way (put_both two three four process (initials part.initials.items) c.in_ok-put_term.ensures can)) c.end_object.ensures

pub put_actions-requires : goal.put_actions-requires
put_actions-requires g c = elim g.met.A.AllocHandle.small [ inl e ↦ rw (e.0, e.1) (search (lit≤, lit<)) | inr e ↦ rw (e.0, e.1) (search (lit≤, lit<)) ]
