-- One more list with the value in front, until there is one of each.
use Rattle.std.proofs.Common.{◌++◌, ◌∷◌, ◌∙◌, ap, arith}
use Rattle.std.proofs.lemmas.List.{take_all}
use Rattle.csp_value.specs.Value.{value_of, values_of}
use Rattle.csp_expression.specs.Choosing.{lists_of, with_first}
use Rattle.csp_expression.proofs.Choosing.{list_behind, none_yet}
use Rattle.csp_expression.proofs.constructors.add_behind.Goals as goal

pub loop-list-init : goal.loop-list-init
loop-list-init g c = none_yet (lists_of c.args.all.items)

pub loop-list-preserved : goal.loop-list-preserved
loop-list-preserved g c =
    list_behind (value_of c.args.value.now) (lists_of c.args.all.items) c.loop-list.more.items c.push.new.self.items c.in_ok-in_front.field-0 c.args.lists.now c.loop-list.list-index c.list-item.result
    c.loop-list.invariant c.loop-list-test.true c.list-item.is (c.in_ok-in_front.ensures ∙ ap (λ vs. value_of c.args.value.now ∷ values_of vs) c.deref.ensures.value) c.in_ok-push.ensures.items

pub returns : goal.returns
returns g c =
    c.loop-list.invariant ∙ ap (λ vss. lists_of c.args.all.items ++ with_first (value_of c.args.value.now) (lists_of vss)) (take_all c.loop-list.list-index c.args.lists.now (omega arith))
