-- What is to blame in given fields, gone through in turn.
use Rattle.std.proofs.Common.{◌≡◌, ℕ, zero, suc, ◌+◌, ◌<◌, ◌≤◌, List, [], ◌∷◌, length, drop, get_or, slice_get, Option, Some, None, refl, sym, ◌∙◌, ap, ap₂, arith}
use Rattle.std.proofs.lemmas.List.{drop_all}
use Rattle.std.specs.Option.{option_or}
use Rattle.theory_syntax.proofs.Places.{cut, drop_at}
use Rattle.theory_syntax.specs.Expression.{to_expressions}
use Rattle.theory_syntax.specs.Types.{Types}
use Rattle.theory_semantics.specs.Meaning.Evaluation.{value}
use Rattle.theory_faults.proofs.Events.{or_or}
use Rattle.theory_faults.specs.Culprit.{Culprit, Misfit, Owner}
use Rattle.theory_faults.specs.Expressions.{culprit, given_culprit, outside}
use Rattle.csp_value.specs.declared.field_set.FieldSet.{FieldSet}
use Rattle.csp_value.specs.Fields.{field_values, sets_of}
use Rattle.csp_expression.specs.declared.expr.Expr.{Expr}
use Rattle.csp_expression.specs.Expression.{expression_of, expressions_of}

-- behind the end of a list nothing is left
nothing_left : {X : Type 0} (xs : List X) (i : ℕ) → slice_get xs i ≡ None → drop i xs ≡ []
nothing_left [] zero at = refl
nothing_left [] (suc i) at = refl
nothing_left (x ∷ xs) zero at = absurd (cc at)
nothing_left (x ∷ xs) (suc i) at = nothing_left xs i at

module _ {A : Type 0} (types : Types) (owner : Owner) (fields : List (Expr A)) (sets : List (FieldSet A)) where
  -- what is to blame from a field on, before which so many stand
  abbrev pub from : ℕ → Option Culprit
  from i = given_culprit types owner i (to_expressions (expressions_of (drop i fields))) (sets_of (drop i sets))

  abbrev pub all : Option Culprit
  all = given_culprit types owner 0 (to_expressions (expressions_of fields)) (sets_of sets)

  -- in a field, and otherwise its value
  abbrev pub one : ℕ → Expr A → FieldSet A → Option Culprit
  one i f set = option_or (culprit types (expression_of f)) (outside owner i (field_values set) (value types (expression_of f)))

  module _ (i : ℕ) (f : Expr A) (within : i < length fields) (read : f ≡ get_or fields i f) (rests : from i ≡ all) where
    pub this : (set : FieldSet A) → slice_get sets i ≡ Some set → option_or (one i f set) (from (i + 1)) ≡ all
    this set at =
        let next : i + 1 ≡ suc i = omega arith in
        let behind = given_culprit types owner (suc i) (to_expressions (expressions_of (drop (i + 1) fields))) (sets_of (drop (suc i) sets)) in
        let same : from (i + 1) ≡ behind = ap (λ n. given_culprit types owner n (to_expressions (expressions_of (drop (i + 1) fields))) (sets_of (drop n sets))) next in
        ap (option_or (one i f set)) same
        ∙ or_or (culprit types (expression_of f)) (outside owner i (field_values set) (value types (expression_of f))) behind
        ∙ ap₂ (λ fs ss. given_culprit types owner i (to_expressions (expressions_of fs)) (sets_of ss)) (cut fields i f within read) (sym (drop_at sets i set at)) ∙ rests

    -- there is no set for it
    pub given_too_many : slice_get sets i ≡ None → Some Misfit ≡ all
    given_too_many at =
        ap₂ (λ fs ss. given_culprit types owner i (to_expressions (expressions_of fs)) (sets_of ss)) (cut fields i f within read) (sym (nothing_left sets i at)) ∙ rests

  pub given_none : (i : ℕ) → length fields ≤ i → from i ≡ all → None ≡ all
  given_none i past rests = sym (ap (λ fs. given_culprit types owner i (to_expressions (expressions_of fs)) (sets_of (drop i sets))) (drop_all i fields past)) ∙ rests
