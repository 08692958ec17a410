use Rattle.csp_parse.specs.Names.{name_of}
use Rattle.csp_names.specs.Walks.{BindsName}
use Rattle.csp_names.proofs.Fields.{name_bound, name_halts}
use Rattle.csp_names.proofs.Walking.{handed_on}
use Rattle.csp_names.proofs.scope.Scope.bind.Goals as goal

pub returns-in_err-check_undeclared : goal.returns-in_err-check_undeclared
returns-in_err-check_undeclared g c =
    handed_on (BindsName c.args.self.now c.args.bound.now c.args.bound.now (name_of c.args.name)) c.from_residual.result c.in_err-check_undeclared.field-0.0 c.from_residual.ensures
    (name_halts c.args.self.now c.args.bound.now (name_of c.args.name) (Unit {0}) c.in_err-check_undeclared.field-0.0 c.in_err-check_undeclared.ensures)

pub returns : goal.returns
returns g c =
    name_bound c.args.self.now c.args.bound.now (name_of c.args.name) c.in_ok-check_undeclared.field-0 c.bind.new.self c.bind.result c.in_ok-check_undeclared.ensures c.bind.ensures.number c.bind.ensures.binds c.bind.ensures.stops
