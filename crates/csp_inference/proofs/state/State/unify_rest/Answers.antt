use Rattle.std.proofs.Common.{◌≡◌, ◌∙◌, refl, sym, ap₂, rules}
use Rattle.theory_checking.specs.Inference.State.{unify_resolved}
use Rattle.csp_inference.specs.Chain.{end_of, over_all}
use Rattle.csp_inference.specs.State.{state_in}
use Rattle.csp_inference.proofs.Uniting.{both_empty, same_chains}
use Rattle.csp_inference.proofs.state.State.unify_rest.Goals as goal

pub returns-then-eq-2 : goal.returns-then-eq-2
returns-then-eq-2 g c =
    let s = state_in c.args.self.now in
    let layers : c.args.left.now ≡ c.args.right.now = search rules in
    let ends : c.args.left_end ≡ c.args.right_end = search rules in (
      s,
      ap₂ (λ ls e. unify_resolved s (over_all c.args.left.now (end_of c.args.left_end)) (over_all ls (end_of e))) (sym layers) (sym ends)
          ∙ same_chains s c.args.left.now c.args.left_end c.in_default.ensures (both_empty c.args.left.now c.args.right.now c.requires layers),
      λ n. refl,
    )
