use Rattle.std.proofs.Common.{◌∙◌, List, sym, subst, ap, ap₂}
use Rattle.theory_checking.specs.Inference.State.{unify, unify_resolved}
use Rattle.csp_inference.specs.declared.chain.Layer.{Layer}
use Rattle.csp_inference.specs.Chain.{demand_of, end_of, over_all}
use Rattle.csp_inference.specs.State.{AreUnlike, state_in}
use Rattle.csp_inference.proofs.Uniting.{left_unlike, tells_same, tells_solved, without_like}
use Rattle.csp_inference.proofs.state.State.unify.Goals as goal

pub unify_rest-requires : goal.unify_rest-requires
unify_rest-requires g c =
    let P : List Layer × List Layer → Type 0 = λ p. AreUnlike p.0 p.1 in
    subst P (sym c.without_like_beginning.ensures) (left_unlike c.deref.result.now c.deref-2.result.now)

pub returns : goal.returns
returns g c =
    let s = state_in c.args.self.now in
    let left = c.in_ok-left.left in
    let right = c.in_ok-right.right in
    tells_solved s (state_in c.unify_rest.new.self) (demand_of c.args.left) (demand_of c.args.right) c.unify_rest.result c.requires
    (tells_same (unify s (demand_of c.args.left) (demand_of c.args.right))
    (unify_resolved s (over_all c.without_like_beginning.result.0.now (end_of left.end)) (over_all c.without_like_beginning.result.1.now (end_of right.end)))
    (state_in c.unify_rest.new.self) c.unify_rest.result
    (ap₂ (unify_resolved s) (sym c.in_ok-left.ensures) (sym c.in_ok-right.ensures)
    ∙ ap₂ (λ ls ms. unify_resolved s (over_all ls (end_of left.end)) (over_all ms (end_of right.end))) (sym c.deref.ensures.value) (sym c.deref-2.ensures.value)
    ∙ without_like s c.deref.result.now c.deref-2.result.now (end_of left.end) (end_of right.end)
    ∙ ap (λ p. unify_resolved s (over_all p.0 (end_of left.end)) (over_all p.1 (end_of right.end))) (sym c.without_like_beginning.ensures))
    c.unify_rest.ensures)
