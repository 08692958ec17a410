use Rattle.std.proofs.Common.{◌≡◌, ◌++◌, ◌∷◌, []}
use Rattle.std.proofs.lemmas.Result.{err_from_is_err_and}
use Rattle.std.proofs.lemmas.List.{map_push}
use Rattle.csp_term.specs.Field.{field_of, fields_of}
use Rattle.theory_spelling.specs.Reading.{items_at, field_at}
use Rattle.csp_spell.proofs.Repeating.{goes_on, ends, is_done}
use Rattle.csp_spell.proofs.read_fields.read_each_field.Goals as goal

pub returns-in_err-field : goal.returns-in_err-field
returns-in_err-field g c =
    let read = field_at c.args.depth in
    let e = err_from_is_err_and c.from_residual.result c.from_residual.ensures.1 in
    rw (e.1, e.2) (ends read (items_at read c.args.count c.args.bytes.now) c.in_err-field.field-0.0 (fields_of c.loop.fields.items) c.args.count c.loop.counter c.loop.rest.now c.loop-test.true c.in_err-field.ensures c.loop.invariant)

pub loop-preserved : goal.loop-preserved
loop-preserved g c =
    let read = field_at c.args.depth in
    let x = c.in_ok-field.field in
    let e : fields_of c.push.new.self.items ≡ fields_of c.loop.fields.items ++ field_of x ∷ [] = rw c.in_ok-push.ensures.items (map_push _ c.loop.fields.items x) in
    rw e (goes_on read (items_at read c.args.count c.args.bytes.now) (fields_of c.loop.fields.items) c.args.count c.loop.counter c.loop.rest.now (field_of x) c.in_ok-field.after.now c.loop-test.true c.in_ok-field.ensures c.loop.invariant)

pub returns : goal.returns
returns g c =
    let read = field_at c.args.depth in
    is_done read (items_at read c.args.count c.args.bytes.now) (fields_of c.loop.fields.items) c.args.count c.loop.counter c.loop.rest.now c.loop-test.false c.loop.invariant
