-- Where they are not as many, there is no binding; else the bindings so far, and one more.
use Rattle.std.proofs.Common.{◌≡◌, get_or, length, map, sym, ◌∙◌, ap₂, arith}
use Rattle.std.proofs.lemmas.List.{length-map, take_all}
use Rattle.theory_semantics.specs.Meaning.Events.{parameter_bindings}
use Rattle.csp_value.specs.Value.{value_of}
use Rattle.csp_expression.specs.declared.name.Name.{Name}
use Rattle.csp_expression.specs.declared.substitution.Binding.{Binding}
use Rattle.csp_expression.specs.Evaluation.{seen_value}
use Rattle.csp_settling.specs.Arguments.{seen_values}
use Rattle.csp_settling.proofs.Parameters.{next_parameter, not_as_many}
use Rattle.csp_settling.proofs.arguments.parameter_bindings.Goals as goal

pub returns-then-parameters-values : goal.returns-then-parameters-values
returns-then-parameters-values g c =
    not_as_many (map (λ n. n.0) c.args.parameters.now) (seen_values c.args.values.now)
    (λ e. c.if-parameters-values.true (sym (length-map c.args.parameters.now (λ n. n.0)) ∙ e ∙ length-map c.args.values.now seen_value))

pub loop-place-preserved : goal.loop-place-preserved
loop-place-preserved g c =
    let as_many : length c.args.parameters.now ≡ length c.args.values.now = omega (arith, c.if-parameters-values.false) in
    let first : Name = record { 0 = 0 } in
    let name = get_or c.args.parameters.now c.loop-place.place first in
    let one : Binding g.row.A.Denot = record { name = name; value = c.value-value.result } in
    next_parameter (λ n. n.0) seen_value (λ b. (b.name.0, value_of b.value.now)) c.args.parameters.now c.args.values.now c.loop-place.place c.loop-place.bindings.items c.push.new.self.items first c.index-values-place.result one
    as_many c.loop-place-test.true c.loop-place.invariant c.index-values-place.is (λ i. (name.0, c.value-value.ensures i)) c.in_ok-push.ensures.items

pub returns : goal.returns
returns g c =
    let as_many : length c.args.parameters.now ≡ length c.args.values.now = omega (arith, c.if-parameters-values.false) in
    let names = take_all c.loop-place.place c.args.parameters.now (omega arith) in
    let values = take_all c.loop-place.place c.args.values.now (omega (arith, as_many)) in
    sym (ap₂ (λ ns vs. parameter_bindings (map (λ n. n.0) ns) (seen_values vs)) names values) ∙ c.loop-place.invariant
