use Rattle.std.proofs.Common.{inl, inr, lit<, arith}
use Rattle.csp_numbers.proofs.Choosing.{all_chosen, has_lists, has_members, member_within, one_more_chosen}
use Rattle.csp_numbers.proofs.lists_of_values.list_of_number.Goals as goal

pub nonzero_div-count : goal.nonzero_div-count
nonzero_div-count g c =
    has_members c.args.sets.now c.loop-set.set-index c.set-item.result c.loop-set-test.true c.set-item.is c.members-members.result.now c.members-members.ensures c.args.number c.loop-set.number c.loop-set.count c.loop-set.list.items c.loop-set.invariant

pub nonzero_div-number : goal.nonzero_div-number
nonzero_div-number g c =
    has_lists c.args.sets.now c.loop-set.set-index c.set-item.result c.loop-set-test.true c.set-item.is c.members-members.result.now c.members-members.ensures c.args.number c.loop-set.number c.loop-set.count c.loop-set.list.items c.loop-set.invariant

pub bounds-members-number : goal.bounds-members-number
bounds-members-number g c =
    member_within c.args.sets.now c.loop-set.set-index c.set-item.result c.loop-set-test.true c.set-item.is c.members-members.result.now c.members-members.ensures c.args.number c.loop-set.number c.loop-set.count c.loop-set.list.items c.loop-set.invariant

pub offset_bounds-members-number : goal.offset_bounds-members-number
offset_bounds-members-number g c =
    let below = member_within c.args.sets.now c.loop-set.set-index c.set-item.result c.loop-set-test.true c.set-item.is c.members-members.result.now c.members-members.ensures c.args.number c.loop-set.number c.loop-set.count c.loop-set.list.items c.loop-set.invariant in
    omega (arith, below)

pub array_drop-list-inside-requires : goal.array_drop-list-inside-requires
array_drop-list-inside-requires g c = elim g.met.A.AllocHandle.small [ inl e ↦ rw (e.0, e.1) (lit< tt) | inr e ↦ rw (e.0, e.1) (lit< tt) ]

pub array_drop-list-inside-requires-in_err-push : goal.array_drop-list-inside-requires-in_err-push
array_drop-list-inside-requires-in_err-push g c = elim g.met.A.AllocHandle.small [ inl e ↦ rw (e.0, e.1) (lit< tt) | inr e ↦ rw (e.0, e.1) (lit< tt) ]

pub nonzero_rem-number : goal.nonzero_rem-number
nonzero_rem-number g c =
    has_lists c.args.sets.now c.loop-set.set-index c.set-item.result c.loop-set-test.true c.set-item.is c.members-members.result.now c.members-members.ensures c.args.number c.loop-set.number c.loop-set.count c.loop-set.list.items c.loop-set.invariant

pub loop-set-preserved : goal.loop-set-preserved
loop-set-preserved g c =
    one_more_chosen c.args.sets.now c.loop-set.set-index c.set-item.result c.loop-set-test.true c.set-item.is c.members-members.result.now c.members-members.ensures c.args.number c.loop-set.number c.loop-set.count c.loop-set.list.items c.loop-set.invariant
    c.index-members-number.result c.in_ok-try_copy.field-0 c.push.new.self.items c.index-members-number.is c.in_ok-try_copy.ensures c.in_ok-push.ensures.ok

pub returns : goal.returns
returns g c = all_chosen c.args.sets.now c.args.number c.loop-set.set-index c.loop-set.number c.loop-set.count c.loop-set.list.items c.loop-set.invariant (omega (arith, c.loop-set-test.false))
