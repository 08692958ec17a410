-- One more instance that is that of the first.
use Rattle.std.proofs.Common.{◌≡◌, ◌∷◌, ◌++◌, [], List, refl, sym, ◌∙◌, ap₂, arith, subst, take}
use Rattle.std.proofs.lemmas.List.{take_all}
use Rattle.theory_syntax.specs.Process.{Process}
use Rattle.csp_value.specs.declared.value.Value.{Value}
use Rattle.csp_steps.specs.Answering.{target_of}
use Rattle.csp_steps.specs.Replicating.{AreAlike, instance_of}
use Rattle.csp_steps.proofs.Repeating.{same_process}
use Rattle.csp_steps.proofs.Replicating.{mapped_more}
use Rattle.csp_steps.proofs.rules.replicated.Instances.are_alike.Goals as goal

pub loop-value-init : goal.loop-value-init
loop-value-init g c = (c.in_ok-expected.ensures, refl)

pub loop-value-preserved : goal.loop-value-preserved
loop-value-preserved g c =
    let i = c.args.self.now in
    let items = c.args.others.now in
    let k = c.loop-value.value-index in
    let item = c.value-item.result in
    let p = instance_of i c.args.first.now in
    let so_far = c.loop-value.invariant in
    let one = same_process p (instance_of i item) (target_of c.loop-value.expected-1) (target_of c.in_ok-instance.instance) so_far.0 c.in_ok-instance.ensures (c.is_same_term.ensures.0 c.if-not-is_same_term.false) in (
      so_far.0,
      mapped_more (instance_of i) items k item c.loop-value-test.true c.value-item.is
          ∙ ap₂ (λ (ps : List Process) (q : Process). ps ++ q ∷ []) so_far.1 one
          ∙ sym (mapped_more (λ v. p) items k item c.loop-value-test.true c.value-item.is),
    )

pub returns : goal.returns
returns g c alike =
    let P : List (Value g.row.A.Denot) → Type 0 = λ vs. AreAlike c.args.self.now c.args.first.now vs in
    subst P (take_all c.loop-value.value-index c.args.others.now (omega arith)) c.loop-value.invariant.1
