-- One more instance, and the chain of all.
use Rattle.std.proofs.Common.{◌≡◌, List, take, sym, ◌∙◌, ap, subst, arith}
use Rattle.std.proofs.lemmas.List.{take_all}
use Rattle.theory_syntax.specs.Process.{Process, InternalChoice}
use Rattle.theory_semantics.specs.Meaning.Transitions.{left_grouped}
use Rattle.csp_value.specs.declared.value.Value.{Value}
use Rattle.csp_steps.specs.Answering.{target_of, within_limits}
use Rattle.csp_steps.specs.Replicating.{instance_of, instances_of}
use Rattle.csp_steps.proofs.Replicating.{choice_within, grouped_more, mapped_more}
use Rattle.csp_steps.proofs.rules.replicated.Instances.choices.Goals as goal

pub loop-value-init : goal.loop-value-init
loop-value-init g c = c.in_ok-chain.ensures

pub loop-value-preserved : goal.loop-value-preserved
loop-value-preserved g c =
    let i = c.args.self.now in
    let items = c.args.others.now in
    let k = c.loop-value.value-index in
    let item = c.value-item.result in
    let first = instance_of i c.args.first.now in
    let before = instances_of i (take k items) in
    let P : List Process → Type 0 = λ qs. target_of c.in_ok-chain-2.chain ≡ within_limits (left_grouped InternalChoice first qs) in
    subst P (sym (mapped_more (instance_of i) items k item c.loop-value-test.true c.value-item.is))
    (c.in_ok-chain-2.ensures
    ∙ choice_within (left_grouped InternalChoice first before) (instance_of i item) (target_of c.loop-value.chain) (target_of c.in_ok-instance.instance) c.loop-value.invariant c.in_ok-instance.ensures
    ∙ ap within_limits (sym (grouped_more InternalChoice first before (instance_of i item))))

pub returns : goal.returns
returns g c =
    let i = c.args.self.now in
    let items = c.args.others.now in
    let P : List (Value g.row.A.Denot) → Type 0 = λ vs. target_of c.loop-value.chain ≡ within_limits (left_grouped InternalChoice (instance_of i c.args.first.now) (instances_of i vs)) in
    subst P (take_all c.loop-value.value-index items (omega arith)) c.loop-value.invariant
