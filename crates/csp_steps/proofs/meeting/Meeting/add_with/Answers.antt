-- The steps of the right side that come before are passed over, and the first other one ends the search.
use Rattle.std.proofs.Common.{◌-◌, ◌∙◌, length, take, drop, map, sym, arith, rules}
use Rattle.std.proofs.lemmas.List.Sorted.{IsPartitionPoint-from_clause}
use Rattle.csp_value.specs.Action.{action_of}
use Rattle.csp_steps.specs.Answering.{answered_of, target_of}
use Rattle.csp_steps.specs.Composing.{composition_of}
use Rattle.csp_steps.specs.Sharing.{is_shared}
use Rattle.csp_steps.specs.Together.{is_before}
use Rattle.csp_steps.proofs.Together.{before_first, met_all, met_until, nothing_met, one_met, sliced, told_other, told_same}
use Rattle.csp_steps.proofs.meeting.Meeting.add_with.Goals as goal

pub returns-then-not-is_shared : goal.returns-then-not-is_shared
returns-then-not-is_shared g c =
    nothing_met (action_of c.args.left.now.action) (is_shared c.args.self.sharing.now) (composition_of c.args.self.composition.now) (target_of c.args.left.now.target)
    (sym c.is_shared.ensures ∙ c.if-not-is_shared.true) c.args.steps.now.items c.args.self.right.now

pub loop-right-preserved : goal.loop-right-preserved
loop-right-preserved g c =
    let x = action_of c.args.left.now.action in
    let right = c.args.self.right.now in
    let first = c.partition_point-first.result in
    let s = c.right-item.result in
    let same = told_same g.row.A g.A.AllocHandle g.A.AllocHandle-dict g.A.Allocator g.A.Allocator-dict g.A.Clone g.A.Clone-dict s.action c.args.left.now.action c.ne.result c.ne.ensures c.if-ne.false in
    one_met x (is_shared c.args.self.sharing.now) (composition_of c.args.self.composition.now) (target_of c.args.left.now.target) (sym c.is_shared.ensures ∙ c.if-not-is_shared.false)
    (map answered_of c.args.steps.now.items) c.loop-right.steps.items c.push.new.self.items (take (length right - first) (drop first right)) c.loop-right.right-index s c.in_ok-both.field-0
    c.loop-right.invariant c.loop-right-test.true c.right-item.is same c.in_ok-both.ensures c.in_ok-push.ensures.items

pub returns-then-ne : goal.returns-then-ne
returns-then-ne g c =
    let x = action_of c.args.left.now.action in
    let right = c.args.self.right.now in
    let first = c.partition_point-first.result in
    let s = c.right-item.result in
    let point = IsPartitionPoint-from_clause (is_before x) right first c.partition_point-first.ensures.partitioned (before_first x right c.requires.rising) (λ a r q k. search rules) in
    let other = told_other g.row.A g.A.AllocHandle g.A.AllocHandle-dict g.A.Allocator g.A.Allocator-dict g.A.Clone g.A.Clone-dict s.action c.args.left.now.action c.ne.result c.ne.ensures c.if-ne.true in
    met_until x (is_shared c.args.self.sharing.now) (composition_of c.args.self.composition.now) (target_of c.args.left.now.target)
    right c.requires.rising first c.partition_point-first.ensures.bound point (take (length right - first) (drop first right)) (sliced right first)
    (map answered_of c.args.steps.now.items) c.loop-right.steps.items c.loop-right.right-index c.loop-right.invariant s c.loop-right-test.true c.right-item.is other

pub returns : goal.returns
returns g c =
    let x = action_of c.args.left.now.action in
    let right = c.args.self.right.now in
    let first = c.partition_point-first.result in
    let point = IsPartitionPoint-from_clause (is_before x) right first c.partition_point-first.ensures.partitioned (before_first x right c.requires.rising) (λ a r q k. search rules) in
    met_all x (is_shared c.args.self.sharing.now) (composition_of c.args.self.composition.now) (target_of c.args.left.now.target)
    right c.requires.rising first c.partition_point-first.ensures.bound point (take (length right - first) (drop first right)) (sliced right first)
    (map answered_of c.args.steps.now.items) c.loop-right.steps.items c.loop-right.right-index c.loop-right.invariant (omega arith)
