use Rattle.std.proofs.Common.{◌≡◌, [], map, rules}
use Rattle.csp_parse.specs.Names.{name_of}
use Rattle.csp_names.specs.Walks.{BindsParameters}
use Rattle.csp_names.proofs.Parameters.{all_parameters, name_read, no_parameters_yet, one_parameter_more, over_names, parameter_halts, within_names}
use Rattle.csp_names.proofs.Walking.{handed_on}
use Rattle.csp_names.proofs.scope.Scope.resolve_parameters.Goals as goal

pub loop-parameter-init : goal.loop-parameter-init
loop-parameter-init g c =
    let empty : c.new-names.result.items ≡ [] = search rules in
    no_parameters_yet c.args.self.now c.args.bound.now (map name_of c.args.parameters.now) c.new-names.result.items empty

pub returns-in_err-name : goal.returns-in_err-name
returns-in_err-name g c =
    let ps = c.args.parameters.now in
    let i = c.loop-parameter.parameter-index in
    let lt = c.loop-parameter-test.true in
    let f = c.in_err-name.field-0.0 in
    handed_on (BindsParameters c.args.self.now c.args.bound.now c.bind_parameter.new.bound (map name_of ps)) c.from_residual.result f c.from_residual.ensures
    (parameter_halts (map name_of ps) i _ (within_names ps i lt) (name_read ps i _ lt) c.args.self.now c.args.bound.now c.loop-parameter.bound c.loop-parameter.names.items c.loop-parameter.invariant f c.in_err-name.ensures)

pub loop-parameter-preserved : goal.loop-parameter-preserved
loop-parameter-preserved g c =
    let ps = c.args.parameters.now in
    let i = c.loop-parameter.parameter-index in
    let lt = c.loop-parameter-test.true in
    one_parameter_more (map name_of ps) i _ (within_names ps i lt) (name_read ps i _ lt) c.args.self.now c.args.bound.now c.loop-parameter.bound c.loop-parameter.names.items c.loop-parameter.invariant
    c.bind_parameter.new.bound c.in_ok-name.name c.push.new.self.items c.in_ok-name.ensures c.in_ok-push.ensures.items

pub returns : goal.returns
returns g c =
    let ps = c.args.parameters.now in
    let i = c.loop-parameter.parameter-index in
    all_parameters c.args.self.now c.args.bound.now c.loop-parameter.bound (map name_of ps) i c.loop-parameter.names.items (over_names ps i c.loop-parameter-test.false) c.loop-parameter.invariant
