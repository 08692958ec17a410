use Rattle.std.proofs.Common.{List, map, refl, sym, subst, arith}
use Rattle.std.proofs.lemmas.List.{length-map}
use Rattle.theory_checking.specs.Sites.{in_fields}
use Rattle.csp_parse.specs.Processes.{field_of}
use Rattle.csp_term.specs.declared.field.Field.{Field}
use Rattle.csp_names.specs.declared.refusals.Refused.TheVariants as refused
use Rattle.csp_names.specs.Walks.{BindsFields}
use Rattle.csp_names.proofs.Fields.{all_fields, FieldsSoFar, field_halts, field_read, met_by, no_fields_yet, no_room_halts, one_field_more}
use Rattle.csp_names.proofs.Walking.{handed_on}
use Rattle.csp_names.proofs.scope.Scope.resolve_fields.Goals as goal

pub loop-field-init : goal.loop-field-init
loop-field-init g c =
    let P : List (Field g.row.A.Denot) → Type 0 = FieldsSoFar c.args.self.now c.args.bound.now c.args.bound.now (map field_of c.args.fields.now) 0 in
    subst P (sym c.new-resolved.ensures.items) (no_fields_yet c.args.self.now c.args.bound.now (map field_of c.args.fields.now))

pub returns-in_err-one : goal.returns-in_err-one
returns-in_err-one g c =
    let read = field_read c.args.fields.now c.loop-field.field-index c.field-item.result c.loop-field-test.true c.field-item.is in
    handed_on (BindsFields c.args.self.now c.args.bound.now c.resolve_field.new.bound (map field_of c.args.fields.now)) c.from_residual.result c.in_err-one.field-0.0 c.from_residual.ensures
    (field_halts c.args.self.now c.args.bound.now c.loop-field.bound (map field_of c.args.fields.now) c.loop-field.field-index c.loop-field.resolved.items (field_of c.field-item.result) read.0 read.1 c.loop-field.invariant c.in_err-one.field-0.0 c.in_err-one.ensures)

pub returns-in_err-push : goal.returns-in_err-push
returns-in_err-push g c =
    let fs = map field_of c.args.fields.now in
    handed_on (BindsFields c.args.self.now c.args.bound.now c.resolve_field.new.bound fs) c.from_residual-in_err-push.result refused.Memory c.from_residual-in_err-push.ensures
    (no_room_halts c.args.self.now c.args.bound.now (λ env. in_fields env fs) (met_by fs) refused.Memory refl)

pub loop-field-preserved : goal.loop-field-preserved
loop-field-preserved g c =
    let read = field_read c.args.fields.now c.loop-field.field-index c.field-item.result c.loop-field-test.true c.field-item.is in
    one_field_more c.args.self.now c.args.bound.now c.loop-field.bound (map field_of c.args.fields.now) c.loop-field.field-index c.loop-field.resolved.items (field_of c.field-item.result) read.0 read.1 c.loop-field.invariant
    c.resolve_field.new.bound c.in_ok-one.one c.push.new.self.items c.in_ok-one.ensures c.in_ok-push.ensures.items

pub returns : goal.returns
returns g c =
    let fs = c.args.fields.now in
    let over = length-map fs field_of in
    all_fields c.args.self.now c.args.bound.now c.loop-field.bound (map field_of fs) c.loop-field.field-index c.loop-field.resolved.items (omega (arith, over, c.loop-field-test.false)) c.loop-field.invariant
