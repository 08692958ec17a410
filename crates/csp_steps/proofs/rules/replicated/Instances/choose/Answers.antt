-- The chain of the first ones, and the last one.
use Rattle.std.proofs.Common.{◌≡◌, ◌∷◌, [], IfOk, Option, map, subst}
use Rattle.theory_syntax.specs.Value.{Tau}
use Rattle.theory_syntax.specs.Process.{Process, InternalChoice}
use Rattle.csp_steps.specs.Answering.{answered_of, target_of, within_limits}
use Rattle.csp_steps.specs.Replicating.{instance_chain, instance_of, settled_in}
use Rattle.csp_steps.proofs.rules.replicated.Instances.choose.Goals as goal

pub returns : goal.returns
returns g c =
    let i = c.args.self.now in
    let chain = instance_chain i InternalChoice c.args.first.now c.args.others.now in
    let last = instance_of i c.args.last.now in
    let P : Option Process → Option Process → Type 0 = λ o r. IfOk c.taus.result (λ steps. map answered_of steps.items ≡ (Tau, o) ∷ (Tau, r) ∷ []) in
    let Q : Option Process → Type 0 = λ o. P o (within_limits (settled_in i last)) in
    subst Q (c.in_ok-before.ensures chain c.in_ok-chain.ensures) (subst (P (target_of c.in_ok-before.before)) (c.in_ok-behind.ensures last c.in_ok-instance.ensures) c.taus.ensures)
