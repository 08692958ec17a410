use Rattle.std.proofs.Common.{arith, sym, ◌∙◌, ap}
use Rattle.std.specs.Ordering.{is_lt}
use Rattle.csp_value.specs.Value.{value_of}
use Rattle.csp_value.proofs.Neighbours.{falls, goes_on_rising, rises_to_the_end}
use Rattle.csp_value.proofs.rising.is_rising.Goals as goal

pub returns : goal.returns
returns g c = rises_to_the_end value_of c.args.values.now c.loop-place.place c.loop-place.invariant.0 c.loop-place-test.false c.loop-place.invariant.1

pub returns-then-not-is_lt : goal.returns-then-not-is_lt
returns-then-not-is_lt g c =
    let less = sym c.if-not-is_lt.true ∙ c.is_lt.ensures ∙ ap is_lt c.compare_values.ensures in
    falls value_of c.args.values.now c.loop-place.place c.index-values-place.result c.index-values-place-in-loop-place.result _ _ c.loop-place.invariant.0 c.loop-place-test.true c.index-values-place.is c.index-values-place-in-loop-place.is less c.loop-place.invariant.1

pub loop-place-preserved : goal.loop-place-preserved
loop-place-preserved g c =
    let less = sym c.if-not-is_lt.false ∙ c.is_lt.ensures ∙ ap is_lt c.compare_values.ensures in
    (omega (arith, c.loop-place.invariant.0), goes_on_rising value_of c.args.values.now c.loop-place.place c.index-values-place.result c.index-values-place-in-loop-place.result _ _ c.loop-place.invariant.0 c.loop-place-test.true c.index-values-place.is c.index-values-place-in-loop-place.is less c.loop-place.invariant.1)
