use Rattle.std.proofs.Common.{◌≡◌, rules, Result, filter, sym, ◌∙◌, subst, refl, ap}
use Rattle.theory_syntax.specs.Value as pure
use Rattle.theory_syntax.specs.Value.{has_value}
use Rattle.theory_syntax.specs.Expression as operator
use Rattle.theory_semantics.specs.Meaning.Evaluation.{Cause, combine}
use Rattle.csp_value.specs.Value.{members_of, value_of}
use Rattle.csp_expression.specs.Evaluation.{IsAnswer}
use Rattle.csp_expression.proofs.Forming.{set_listed, sets_are, set_is}
use Rattle.csp_expression.proofs.Refusing.{no_set}
use Rattle.csp_expression.proofs.sets.intersection.Goals as goal
use Rattle.csp_expression.proofs.sets.intersection.Goals.{in_default-via-in-Set+in_default, in_default-via-in_default}

pub returns-in-Set-Set : goal.returns-in-Set-Set
returns-in-Set-Set g c =
    let made : members_of c.intersection.result ≡ pure.to_values (filter (λ v. has_value (pure.values_list (members_of c.in-Set-Set.right)) v) (pure.values_list (members_of c.in-Set-Set.left))) = search rules in
    let P : Result pure.Value Cause → Type 0 = λ r. IsAnswer c.set.result r in
    let is = set_listed (members_of c.intersection.result) (filter (λ v. has_value (pure.values_list (members_of c.in-Set-Set.right)) v) (pure.values_list (members_of c.in-Set-Set.left))) made in
    subst P (is ∙ sym (sets_are operator.Intersection c.args.left c.args.right.now c.in-Set-Set.left c.in-Set-Set.right c.in-Set-Set.is-0 c.in-Set-Set.is-1)) c.set.ensures

pub returns-in_default : goal.returns-in_default
returns-in_default g c =
    let f = combine operator.Intersection in
    let right = value_of c.args.right.now in
    elim c.in_default.branch [
      | in_default-via-in-Set+in_default w ↦
          ap (λ v. f v right) (set_is c.args.left w.in_default.field-0-0 w.in_default.is-0)
          ∙ no_set g.row.A g.A.Allocator (λ v. f (pure.Set (members_of w.in_default.field-0-0)) v) ((λ n. refl, λ b. refl, λ k vs. refl), λ vs. refl) c.args.right.now w.in_default.not-Set-1
      | in_default-via-in_default w ↦ no_set g.row.A g.A.Allocator (λ v. f v right) ((λ n. refl, λ b. refl, λ k vs. refl), λ vs. refl) c.args.left w.in_default.not-Set-0
    ]
