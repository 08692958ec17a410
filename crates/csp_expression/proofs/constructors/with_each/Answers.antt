-- The lists with the values so far, unless they are too many already.
use Rattle.std.proofs.Common.{refl, ◌∙◌, ap, arith}
use Rattle.std.proofs.lemmas.List.{take_all}
use Rattle.csp_value.specs.Value.{values_of}
use Rattle.csp_expression.specs.Choosing.{lists_of, with_each}
use Rattle.csp_expression.proofs.Choosing.{next_each, too_many_lists}
use Rattle.csp_expression.proofs.constructors.with_each.Goals as goal

pub loop-value-init : goal.loop-value-init
loop-value-init g c = ap lists_of c.new-all.ensures.items

pub returns-then-len-gt-MAX_MEMBERS : goal.returns-then-len-gt-MAX_MEMBERS
returns-then-len-gt-MAX_MEMBERS g c =
    let more = next_each c.members-value-items.result.now (lists_of c.args.lists.now) c.loop-value.value-index c.value-item.result (lists_of c.loop-value.all.items) (lists_of c.in_ok-all.all.items) c.loop-value-test.true c.value-item.is c.loop-value.invariant c.in_ok-all.ensures in
    (refl, too_many_lists c.members-value-items.result.now _ c.members-value-items.ensures c.args.lists.now c.loop-value.value-index c.in_ok-all.all.items c.loop-value-test.true more (omega (arith, c.if-len-gt-MAX_MEMBERS.true)))

pub loop-value-preserved : goal.loop-value-preserved
loop-value-preserved g c =
    next_each c.members-value-items.result.now (lists_of c.args.lists.now) c.loop-value.value-index c.value-item.result (lists_of c.loop-value.all.items) (lists_of c.in_ok-all.all.items) c.loop-value-test.true c.value-item.is c.loop-value.invariant c.in_ok-all.ensures

pub returns : goal.returns
returns g c =
    c.loop-value.invariant ∙ ap (λ vs. with_each (values_of vs) (lists_of c.args.lists.now)) (take_all c.loop-value.value-index c.members-value-items.result.now (omega arith)) ∙ ap (λ vs. with_each vs (lists_of c.args.lists.now)) c.members-value-items.ensures
