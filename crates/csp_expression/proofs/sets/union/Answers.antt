use Rattle.std.proofs.Common.{◌≡◌, Result, rules, sym, ◌∙◌, subst, refl, ap}
use Rattle.theory_syntax.specs.Value as pure
use Rattle.theory_syntax.specs.Expression as operator
use Rattle.theory_semantics.specs.Meaning.Evaluation.{Cause, combine}
use Rattle.csp_value.specs.Value.{members_of, value_of}
use Rattle.csp_expression.specs.Evaluation.{Gives}
use Rattle.csp_expression.proofs.Forming.{set_listed, sets_are, set_is}
use Rattle.csp_expression.proofs.Refusing.{no_set}
use Rattle.csp_expression.proofs.sets.union.Goals as goal
use Rattle.csp_expression.proofs.sets.union.Goals.{in_default-via-in-Set+in_default, in_default-via-in_default}

pub returns-in_err-set-in-Set-Set : goal.returns-in_err-set-in-Set-Set
returns-in_err-set-in-Set-Set g c =
    let made : members_of c.in_ok-union-in-Set-Set.field-0 ≡ pure.to_values (pure.insert_values (pure.values_list (members_of c.in-Set-Set.left)) (pure.values_list (members_of c.in-Set-Set.right))) = search rules in
    let P : Result pure.Value Cause → Type 0 = λ r. Gives c.from_residual-in_err-set-in-Set-Set.result r in
    let is = set_listed (members_of c.in_ok-union-in-Set-Set.field-0) (pure.insert_values (pure.values_list (members_of c.in-Set-Set.left)) (pure.values_list (members_of c.in-Set-Set.right))) made in
    subst P (is ∙ sym (sets_are operator.Union c.args.left c.args.right c.in-Set-Set.left c.in-Set-Set.right c.in-Set-Set.is-0 c.in-Set-Set.is-1)) (search rules)

pub returns-in_ok-set-in-Set-Set : goal.returns-in_ok-set-in-Set-Set
returns-in_ok-set-in-Set-Set g c =
    let made : members_of c.in_ok-union-in-Set-Set.field-0 ≡ pure.to_values (pure.insert_values (pure.values_list (members_of c.in-Set-Set.left)) (pure.values_list (members_of c.in-Set-Set.right))) = search rules in
    let is = set_listed (members_of c.in_ok-union-in-Set-Set.field-0) (pure.insert_values (pure.values_list (members_of c.in-Set-Set.left)) (pure.values_list (members_of c.in-Set-Set.right))) made in
    sets_are operator.Union c.args.left c.args.right c.in-Set-Set.left c.in-Set-Set.right c.in-Set-Set.is-0 c.in-Set-Set.is-1 ∙ sym is ∙ c.in_ok-set-in-Set-Set.ensures

pub returns-in_default : goal.returns-in_default
returns-in_default g c =
    let f = combine operator.Union in
    let right = value_of c.args.right in
    elim c.in_default.branch [
      | in_default-via-in-Set+in_default w ↦
          ap (λ v. f v right) (set_is c.args.left w.in_default.field-0-0 w.in_default.is-0)
          ∙ no_set g.row.A g.A.Allocator (λ v. f (pure.Set (members_of w.in_default.field-0-0)) v) ((λ n. refl, λ b. refl, λ k vs. refl), λ vs. refl) c.args.right w.in_default.not-Set-1
      | in_default-via-in_default w ↦ no_set g.row.A g.A.Allocator (λ v. f v right) ((λ n. refl, λ b. refl, λ k vs. refl), λ vs. refl) c.args.left w.in_default.not-Set-0
    ]
