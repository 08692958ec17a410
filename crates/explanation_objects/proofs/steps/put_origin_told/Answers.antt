-- An object, if the origin is told.
use Rattle.std.proofs.Common.{Option, option_map, sym, subst}
use Rattle.theory_objects.specs.Accounts.{origin_told}
use Rattle.theory_objects.specs.Fields.{field_tokens}
use Rattle.csp_moves.specs.Origin.{origin_of}
use Rattle.csp_moves.specs.declared.origin.Origin.{Origin}
use Rattle.csp_print.specs.Names.{names_of}
use Rattle.explanation_objects.specs.Putting.{Puts}
use Rattle.explanation_objects.proofs.Putting.{HasPut, nothing}
use Rattle.explanation_objects.proofs.steps.put_origin_told.Goals as goal

pub returns-in-Some : goal.returns-in-Some
returns-in-Some g c =
    let P : Option (Origin g.row.A.Denot) → Type 0 = λ o. Puts c.put_origin_object.result c.args.writer.now c.put_origin_object.new.writer (origin_told (names_of c.args.names.now) (option_map origin_of o)) in
    subst P (sym c.in-Some.is) c.put_origin_object.ensures

pub returns-in-None : goal.returns-in-None
returns-in-None g c =
    let w = c.args.writer.now in
    let P : Option (Origin g.row.A.Denot) → Type 0 = λ o. HasPut w w (field_tokens (origin_told (names_of c.args.names.now) (option_map origin_of o))) in
    subst P (sym c.in-None.is) (nothing w)
