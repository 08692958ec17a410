use Rattle.std.proofs.Common.{map, refl}
use Rattle.theory_checking.specs.Resolving as resolving
use Rattle.theory_checking.specs.Sites.{in_pair}
use Rattle.csp_parse.specs.Events.{pair_of}
use Rattle.csp_events.specs.Events.{renaming_pair_of}
use Rattle.csp_names.specs.declared.refusals.Refused.TheVariants as refused
use Rattle.csp_names.specs.Walks.{ResolvesPairs}
use Rattle.csp_names.proofs.Resolves.{all_so_far, one_more_so_far, one_stops_all, room_stops_all}
use Rattle.csp_names.proofs.Walking.{handed_on}
use Rattle.csp_names.proofs.scope.Scope.resolve_pairs.Goals as goal

pub returns-in_err-one : goal.returns-in_err-one
returns-in_err-one g c =
    handed_on (ResolvesPairs c.args.self.now c.args.bound.now (map pair_of c.args.pairs.now)) c.from_residual.result c.in_err-one.field-0.0 c.from_residual.ensures
    (one_stops_all c.args.self.now c.args.bound.now pair_of in_pair resolving.pair_of renaming_pair_of c.args.pairs.now g.row.A.Denot c.loop-pair.pair-index c.loop-pair.resolved.items c.pair-item.result c.in_err-one.field-0.0 c.loop-pair-test.true c.pair-item.is c.loop-pair.invariant c.in_err-one.ensures)

pub returns-in_err-push : goal.returns-in_err-push
returns-in_err-push g c =
    handed_on (ResolvesPairs c.args.self.now c.args.bound.now (map pair_of c.args.pairs.now)) c.from_residual-in_err-push.result refused.Memory c.from_residual-in_err-push.ensures (room_stops_all c.args.self.now c.args.bound.now pair_of in_pair resolving.pair_of (renaming_pair_of {A = g.row.A.Denot}) c.args.pairs.now g.row.A.Denot refused.Memory refl)

pub loop-pair-preserved : goal.loop-pair-preserved
loop-pair-preserved g c =
    one_more_so_far c.args.self.now c.args.bound.now pair_of in_pair resolving.pair_of renaming_pair_of c.args.pairs.now c.loop-pair.pair-index c.loop-pair.resolved.items c.push.new.self.items c.pair-item.result c.in_ok-one.one
    c.loop-pair-test.true c.pair-item.is c.loop-pair.invariant c.in_ok-one.ensures c.in_ok-push.ensures.items

pub returns : goal.returns
returns g c = all_so_far c.args.self.now c.args.bound.now pair_of in_pair resolving.pair_of renaming_pair_of c.args.pairs.now c.loop-pair.pair-index c.loop-pair.resolved c.loop-pair-test.false c.loop-pair.invariant
