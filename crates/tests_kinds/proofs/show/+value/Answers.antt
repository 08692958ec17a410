-- What a value holds is smaller than it.
use Rattle.std.proofs.Common.{◌+◌, ◌*◌, ◌<◌, ap, rules, arith}
use Rattle.theory_semantics.specs.Meaning.Limits.{value_size}
use Rattle.csp_value.proofs.Measures.{one_size, sizes}
use Rattle.csp_inference.proofs.AskingValues.{member_size, of_constructor, of_sequence, of_set}
use Rattle.tests_kinds.proofs.show.+value.Goals as goal

pub value-constructed-requires : goal.value-constructed-requires
value-constructed-requires t c =
    let size = ap value_size (of_constructor c.args.item.now _ c.in-Con.fields c.deref.result.now c.in-Con.is c.deref.ensures.value) in
    let smaller : 3 * sizes c.deref.result.now + 2 < 3 * one_size c.args.item.now = omega (arith, size) in
    search rules

pub value-values-requires : goal.value-values-requires
value-values-requires t c =
    let size = ap value_size (of_sequence c.args.item.now c.in-Seq.items c.deref-in-Seq.result.now c.in-Seq.is c.deref-in-Seq.ensures.value) in
    let smaller : 3 * sizes c.deref-in-Seq.result.now + 1 < 3 * one_size c.args.item.now = omega (arith, size) in
    search rules

pub value-values-requires-in-Set : goal.value-values-requires-in-Set
value-values-requires-in-Set t c =
    let size = ap value_size (of_set c.args.item.now c.in-Set.set c.members.result.now c.in-Set.is c.members.ensures) in
    let smaller : 3 * sizes c.members.result.now + 1 < 3 * one_size c.args.item.now = omega (arith, size) in
    search rules

pub values-value-requires : goal.values-value-requires
values-value-requires t c =
    let one = member_size c.args.items.now c.loop-index.index c.index-items-index.result c.loop-index-test.true c.index-items-index.is in
    let smaller : 3 * one_size c.index-items-index.result < 3 * sizes c.args.items.now + 1 = omega (arith, one) in
    search rules
