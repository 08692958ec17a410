-- The name, and the parts in brackets.
use Rattle.std.proofs.Common.{List, [], ◌∷◌, map, ap, subst, ◌∙◌}
use Rattle.std.specs.Prelude.{codes}
use Rattle.theory_origins.specs.Doers.{doers}
use Rattle.theory_objects.specs.Accounts.{doer_fields}
use Rattle.theory_objects.specs.Fields.{Field, objects_field}
use Rattle.csp_moves.specs.Origin.{origin_of}
use Rattle.csp_moves.specs.Passage.{side_of}
use Rattle.csp_print.specs.Names.{names_of}
use Rattle.counterexample.specs.Doers.{doers_listed}
use Rattle.counterexample.specs.declared.doers.Doer.{Doer}
use Rattle.explanation_objects.specs.Putting.{Puts}
use Rattle.explanation_objects.proofs.Objects.{listed_objects}
use Rattle.explanation_objects.proofs.Parts.{doers_behind}
use Rattle.explanation_objects.proofs.doers.put_doers.Goals as goal

pub returns : goal.returns
returns g c =
    let names = names_of c.args.names.now in
    let way = map side_of c.args.way.now in
    let r = c.end_array.result in
    let old = c.args.writer.now in
    let new = c.end_array.new.self in
    let same = ap (λ (ds : List (Doer g.row.A.Denot)). map (doer_fields names []) (doers_listed ds)) c.deref.ensures.value ∙ ap (map (doer_fields names [])) c.in_ok-all.ensures ∙ doers_behind names way (doers (origin_of c.args.origin.now)) in
    let P : List (List Field) → Type 0 = λ os. Puts r old new (objects_field (codes "parts") os ∷ []) in
    subst P same
    (listed_objects r old c.key.new.self c.begin_array.new.self c.put_each_doer.new.writer new (codes "parts") (map (doer_fields names []) (doers_listed c.deref.result.now))
    (c.in_ok-key.ensures.room.0, c.in_ok-key.ensures.ok) (c.in_ok-begin_array.ensures.room.0, c.in_ok-begin_array.ensures.ok) c.in_ok-put_each_doer.ensures c.end_array.ensures)
