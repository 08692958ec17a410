use Rattle.csp_parse.specs.Names.{name_of}
use Rattle.csp_names.specs.Walks.{ResolvesBarePair}
use Rattle.csp_names.proofs.Pairs.{bare_left_stops, bare_pair_made, bare_right_stops}
use Rattle.csp_names.proofs.Walking.{handed_on}
use Rattle.csp_names.proofs.scope.Scope.resolve_bare_pair.Goals as goal

pub returns-in_err-left : goal.returns-in_err-left
returns-in_err-left g c =
    let m = name_of c.args.from in
    let n = name_of c.args.to in
    handed_on (ResolvesBarePair c.args.self.now c.args.bound.now m n) c.from_residual.result c.in_err-left.field-0.0 c.from_residual.ensures
    (bare_left_stops c.args.self.now c.args.bound.now m n c.in_err-left.field-0.0 c.in_err-left.ensures)

pub returns-in_err-right : goal.returns-in_err-right
returns-in_err-right g c =
    let m = name_of c.args.from in
    let n = name_of c.args.to in
    handed_on (ResolvesBarePair c.args.self.now c.args.bound.now m n) c.from_residual-in_err-right.result c.in_err-right.field-0.0 c.from_residual-in_err-right.ensures
    (bare_right_stops c.args.self.now c.args.bound.now m n c.in_ok-left.left c.in_ok-left.ensures c.in_err-right.field-0.0 c.in_err-right.ensures)

pub returns : goal.returns
returns g c =
    bare_pair_made c.args.self.now c.args.bound.now (name_of c.args.from) (name_of c.args.to) c.in_ok-left.left c.in_ok-left.ensures c.in_ok-right.right c.new.result c.new-2.result c.in_ok-right.ensures c.new.ensures.items c.new-2.ensures.items
