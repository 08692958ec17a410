-- Each form is resolved by its parts, in order.
use Rattle.std.proofs.Common.{Err, Ok, ap}
use Rattle.theory_text.specs.Raw.{RawGiven, RawInputFrom}
use Rattle.csp_parse.specs.Expressions.{expression_of}
use Rattle.csp_parse.specs.Names.{name_of}
use Rattle.csp_parse.specs.Processes.{field_of}
use Rattle.csp_term.specs.declared.field.Field.TheVariants as field
use Rattle.csp_names.specs.Walks.{BindsField}
use Rattle.csp_names.proofs.Fields.{declared_halts, for_field, given_done, given_halts, input_from_done, set_halts}
use Rattle.csp_names.proofs.Walking.{handed_on}
use Rattle.csp_names.proofs.scope.Scope.resolve_field.Goals as goal

pub returns-in_err-value-in-Given : goal.returns-in_err-value-in-Given
returns-in_err-value-in-Given g c =
    handed_on (BindsField c.args.self.now c.args.bound.now c.args.bound.now (field_of c.args.field.now)) c.from_residual.result c.in_err-value-in-Given.field-0.0 c.from_residual.ensures
    (for_field c.args.self.now c.args.bound.now c.args.bound.now (field_of c.args.field.now) (RawGiven (expression_of c.in-Given.value)) (Err c.in_err-value-in-Given.field-0.0) (ap field_of c.in-Given.is)
    (given_halts c.args.self.now c.args.bound.now (expression_of c.in-Given.value) c.in_err-value-in-Given.field-0.0 c.in_err-value-in-Given.ensures))

pub returns-in_err-check_undeclared-in-InputFrom : goal.returns-in_err-check_undeclared-in-InputFrom
returns-in_err-check_undeclared-in-InputFrom g c =
    handed_on (BindsField c.args.self.now c.args.bound.now c.args.bound.now (field_of c.args.field.now)) c.from_residual-in_err-check_undeclared-in-InputFrom.result c.in_err-check_undeclared-in-InputFrom.field-0.0 c.from_residual-in_err-check_undeclared-in-InputFrom.ensures
    (for_field c.args.self.now c.args.bound.now c.args.bound.now (field_of c.args.field.now) (RawInputFrom (name_of c.in-InputFrom.name) (expression_of c.in-InputFrom.set)) (Err c.in_err-check_undeclared-in-InputFrom.field-0.0) (ap field_of c.in-InputFrom.is)
    (declared_halts c.args.self.now c.args.bound.now (name_of c.in-InputFrom.name) (Unit {0}) (expression_of c.in-InputFrom.set) c.in_err-check_undeclared-in-InputFrom.field-0.0 c.in_err-check_undeclared-in-InputFrom.ensures))

pub returns-in_err-set-in-InputFrom : goal.returns-in_err-set-in-InputFrom
returns-in_err-set-in-InputFrom g c =
    handed_on (BindsField c.args.self.now c.args.bound.now c.args.bound.now (field_of c.args.field.now)) c.from_residual-in_err-set-in-InputFrom.result c.in_err-set-in-InputFrom.field-0.0 c.from_residual-in_err-set-in-InputFrom.ensures
    (for_field c.args.self.now c.args.bound.now c.args.bound.now (field_of c.args.field.now) (RawInputFrom (name_of c.in-InputFrom.name) (expression_of c.in-InputFrom.set)) (Err c.in_err-set-in-InputFrom.field-0.0) (ap field_of c.in-InputFrom.is)
    (set_halts c.args.self.now c.args.bound.now (name_of c.in-InputFrom.name) c.in_ok-check_undeclared-in-InputFrom.field-0 (expression_of c.in-InputFrom.set) c.in_err-set-in-InputFrom.field-0.0 c.in_ok-check_undeclared-in-InputFrom.ensures c.in_err-set-in-InputFrom.ensures))

pub returns-in_ok-value-in-Given : goal.returns-in_ok-value-in-Given
returns-in_ok-value-in-Given g c =
    let value = c.in_ok-value-in-Given.value in
    for_field c.args.self.now c.args.bound.now c.args.bound.now (field_of c.args.field.now) (RawGiven (expression_of c.in-Given.value)) (Ok (field.Given value)) (ap field_of c.in-Given.is)
    (given_done c.args.self.now c.args.bound.now (expression_of c.in-Given.value) value c.in_ok-value-in-Given.ensures)

pub returns-in_ok-name-in-InputFrom : goal.returns-in_ok-name-in-InputFrom
returns-in_ok-name-in-InputFrom g c =
    let name = c.in_ok-name-in-InputFrom.name in
    let set = c.in_ok-set-in-InputFrom.set in
    let new = c.bind-in-InputFrom.new.self in
    for_field c.args.self.now c.args.bound.now new (field_of c.args.field.now) (RawInputFrom (name_of c.in-InputFrom.name) (expression_of c.in-InputFrom.set)) (Ok (field.InputFrom name set)) (ap field_of c.in-InputFrom.is)
    (input_from_done c.args.self.now c.args.bound.now (name_of c.in-InputFrom.name) c.in_ok-check_undeclared-in-InputFrom.field-0 (expression_of c.in-InputFrom.set) set new name c.in_ok-check_undeclared-in-InputFrom.ensures c.in_ok-set-in-InputFrom.ensures c.in_ok-name-in-InputFrom.ensures.number c.in_ok-name-in-InputFrom.ensures.binds)
