-- Where steps are folded, they are those that unfold.
use Rattle.std.proofs.Common.{◌≡◌, Bool, List, [], Vec, IfOk, if◌then◌else◌, sym, ◌∙◌, subst}
use Rattle.theory_explanation.specs.Folding.{unfoldings}
use Rattle.csp_term.specs.declared.name.EquationId.{EquationId}
use Rattle.counterexample.specs.Counterexample.{origins_listed}
use Rattle.counterexample.specs.Folding.{equations_listed}
use Rattle.counterexample.proofs.folding.folded.Goals as goal

pub returns-then-folds : goal.returns-then-folds
returns-then-folds g c =
    let all = unfoldings (origins_listed c.args.origins.now) in
    let T : Bool → Type 0 = λ b. IfOk c.unfoldings.result (λ (equations : Vec EquationId g.row.A.Denot). equations_listed equations.items ≡ (if b then all else [])) in
    subst T (sym (sym c.folds.ensures ∙ c.if-folds.true)) c.unfoldings.ensures
