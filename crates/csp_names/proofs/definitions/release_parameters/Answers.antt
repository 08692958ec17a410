use Rattle.std.proofs.Common.{map}
use Rattle.csp_parse.specs.Names.{name_of}
use Rattle.csp_names.proofs.Going.{releases_nothing}
use Rattle.csp_names.proofs.Parameters.{all_released, name_read, one_released, over_names, within_names}
use Rattle.csp_names.proofs.definitions.release_parameters.Goals as goal

pub loop-parameter-init : goal.loop-parameter-init
loop-parameter-init g c in_order = releases_nothing c.args.bound.now in_order

pub loop-parameter-preserved : goal.loop-parameter-preserved
loop-parameter-preserved g c =
    let ps = c.args.parameters.now in
    let i = c.loop-parameter.parameter-index in
    let lt = c.loop-parameter-test.true in
    one_released (map name_of ps) i _ (within_names ps i lt) (name_read ps i _ lt) c.args.bound.now c.loop-parameter.bound c.release.new.self c.loop-parameter.invariant c.in_ok-release.ensures.releases

pub returns-clause-releases : goal.returns-clause-releases
returns-clause-releases g c =
    let ps = c.args.parameters.now in
    let i = c.loop-parameter.parameter-index in
    all_released c.args.bound.now c.loop-parameter.bound (map name_of ps) i (over_names ps i c.loop-parameter-test.false) c.loop-parameter.invariant
