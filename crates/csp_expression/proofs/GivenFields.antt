-- Given fields one after the other, each evaluated and then compared with its set.
use Rattle.std.proofs.Common.{◌≡◌, ℕ, zero, suc, ◌+◌, ◌<◌, Bool, true, false, cond, List, [], ◌∷◌, ◌++◌, length, map, take, drop, get_or, slice_get, Some, None, Result, Ok, Err, refl, sym, ◌∙◌, ap, arith}
use Rattle.std.proofs.lemmas.List.{drop_more, length-map, length-take-le, map-append, take-append-drop, take_more}
use Rattle.theory_syntax.specs.Value.{Value, has_value}
use Rattle.theory_syntax.specs.Expression.{Expression, Expressions, expression_and, to_expressions}
use Rattle.theory_syntax.specs.Types.{Types}
use Rattle.theory_syntax.proofs.Places.{get_some, drop_at}
use Rattle.theory_semantics.specs.Meaning.Evaluation.{Cause, IllKinded, OutOfRange, ◌and_then◌, given_values, in_field_set, value}
use Rattle.csp_value.specs.declared.field_set.FieldSet.{FieldSet}
use Rattle.csp_value.specs.declared.value.Value as code
use Rattle.csp_value.specs.Fields.{field_values, sets_of}
use Rattle.csp_value.specs.Value.{value_of, values_of}
use Rattle.csp_expression.specs.Agreement.{AgreesWith}
use Rattle.csp_expression.specs.Cause.{cause_of}
use Rattle.csp_expression.specs.Given.{given}
use Rattle.csp_expression.specs.declared.no_value.NoValue.{NoValue}
use Rattle.csp_expression.specs.declared.no_value.NoValue.TheVariants as eval
use Rattle.csp_expression.proofs.Forming.{get_none}

-- ---- what is left of a list

-- there is no set for the next field
drop_past : {X : Type 0} (xs : List X) (i : ℕ) → slice_get xs i ≡ None → drop i xs ≡ []
drop_past [] zero at = refl
drop_past [] (suc i) at = refl
drop_past (y ∷ ys) zero at = absurd (cc at)
drop_past (y ∷ ys) (suc i) at = drop_past ys i at

module _ (types : Types) where
  -- ---- the first field, and those behind it

  -- what is done with a value that lies in its set
  by_given : (r : Result Value Cause) (set : List Value) (k : Value → Result (List Value) Cause) → (r and_then λ v. in_field_set set v and_then λ w. k v) ≡ ((r and_then λ v. in_field_set set v) and_then λ v. k v)
  by_given (Ok v) set k = by_test (has_value set v)
    where
      by_test : (b : Bool) → (cond b (Ok v) (Err OutOfRange) and_then λ w. k v) ≡ (cond b (Ok v) (Err OutOfRange) and_then λ w. k w)
      by_test true = refl
      by_test false = refl
  by_given (Err c) set k = refl

  -- the first field
  first_given : (e : Expression) (es : Expressions) (set : List Value) (sets : List (List Value)) → given_values types (expression_and e es) (set ∷ sets) ≡ (given types e set and_then λ v. given_values types es sets and_then λ vs. Ok (v ∷ vs))
  first_given e es set sets = by_given (value types e) set (λ v. given_values types es sets and_then λ vs. Ok (v ∷ vs))

  -- some fields, and those behind them
  given_both : (es fs : List Expression) (sets : List (List Value)) →
      given_values types (to_expressions (es ++ fs)) sets ≡ (given_values types (to_expressions es) sets and_then λ vs. given_values types (to_expressions fs) (drop (length es) sets) and_then λ ws. Ok (vs ++ ws))
  given_both [] fs sets = alone (given_values types (to_expressions fs) sets)
    where
      alone : (r : Result (List Value) Cause) → r ≡ (r and_then λ ws. Ok ws)
      alone (Ok ws) = refl
      alone (Err c) = refl
  given_both (e ∷ es) fs [] = refl
  given_both (e ∷ es) fs (set ∷ sets) =
      first_given e (to_expressions (es ++ fs)) set sets ∙ by_first (given types e set) (given_both es fs sets)
      ∙ ap (λ r. r and_then λ vs. given_values types (to_expressions fs) (drop (length es) sets) and_then λ ws. Ok (vs ++ ws)) (sym (first_given e (to_expressions es) set sets))
    where
      behind : Result (List Value) Cause
      behind = given_values types (to_expressions fs) (drop (length es) sets)

      by_last : (v : Value) (vs : List Value) (r : Result (List Value) Cause) → ((r and_then λ ws. Ok (vs ++ ws)) and_then λ us. Ok (v ∷ us)) ≡ (r and_then λ ws. Ok ((v ∷ vs) ++ ws))
      by_last v vs (Ok ws) = refl
      by_last v vs (Err c) = refl

      by_rest : (v : Value) (r : Result (List Value) Cause) → ((r and_then λ vs. behind and_then λ ws. Ok (vs ++ ws)) and_then λ us. Ok (v ∷ us)) ≡ ((r and_then λ vs. Ok (v ∷ vs)) and_then λ vs. behind and_then λ ws. Ok (vs ++ ws))
      by_rest v (Ok vs) = by_last v vs behind
      by_rest v (Err c) = refl

      by_first : (r : Result Value Cause) → given_values types (to_expressions (es ++ fs)) sets ≡ (given_values types (to_expressions es) sets and_then λ vs. behind and_then λ ws. Ok (vs ++ ws)) →
          (r and_then λ v. given_values types (to_expressions (es ++ fs)) sets and_then λ us. Ok (v ∷ us)) ≡ ((r and_then λ v. given_values types (to_expressions es) sets and_then λ vs. Ok (v ∷ vs)) and_then λ vs. behind and_then λ ws. Ok (vs ++ ws))
      by_first (Ok v) rest = ap (λ r. r and_then λ us. Ok (v ∷ us)) rest ∙ by_rest v (given_values types (to_expressions es) sets)
      by_first (Err c) rest = refl

  -- ---- one field more

  module _ (es : List Expression) (vs : List Value) (sets : List (List Value)) (so_far : given_values types (to_expressions es) sets ≡ Ok vs) (e : Expression) where
    -- the values so far do not hang on what follows
    after : (fs : List Expression) → given_values types (to_expressions (es ++ e ∷ fs)) sets ≡ (given_values types (expression_and e (to_expressions fs)) (drop (length es) sets) and_then λ ws. Ok (vs ++ ws))
    after fs = given_both es (e ∷ fs) sets ∙ ap (λ r. r and_then λ us. given_values types (expression_and e (to_expressions fs)) (drop (length es) sets) and_then λ ws. Ok (us ++ ws)) so_far

    -- so where there is a set for the field
    after_set : (fs : List Expression) (set : List Value) → slice_get sets (length es) ≡ Some set →
        given_values types (to_expressions (es ++ e ∷ fs)) sets ≡ ((given types e set and_then λ v. given_values types (to_expressions fs) (drop (suc (length es)) sets) and_then λ ws. Ok (v ∷ ws)) and_then λ ws. Ok (vs ++ ws))
    after_set fs set at =
        after fs ∙ ap (λ zs. given_values types (expression_and e (to_expressions fs)) zs and_then λ ws. Ok (vs ++ ws)) (drop_at sets (length es) set at)
        ∙ ap (λ r. r and_then λ ws. Ok (vs ++ ws)) (first_given e (to_expressions fs) set (drop (suc (length es)) sets))

    -- its value is the next
    one_given : (set : List Value) (v : Value) → slice_get sets (length es) ≡ Some set → given types e set ≡ Ok v → given_values types (to_expressions (es ++ e ∷ [])) sets ≡ Ok (vs ++ v ∷ [])
    one_given set v at one = after_set [] set at ∙ ap (λ r. (r and_then λ w. Ok (w ∷ [])) and_then λ ws. Ok (vs ++ ws)) one

    -- it has no value
    one_stops : (fs : List Expression) (set : List Value) (c : Cause) → slice_get sets (length es) ≡ Some set → given types e set ≡ Err c → given_values types (to_expressions (es ++ e ∷ fs)) sets ≡ Err c
    one_stops fs set c at none = after_set fs set at ∙ ap (λ r. (r and_then λ w. given_values types (to_expressions fs) (drop (suc (length es)) sets) and_then λ ws. Ok (w ∷ ws)) and_then λ ws. Ok (vs ++ ws)) none

    -- it has no set
    one_too_many : (fs : List Expression) → slice_get sets (length es) ≡ None → given_values types (to_expressions (es ++ e ∷ fs)) sets ≡ Err IllKinded
    one_too_many fs at = after fs ∙ ap (λ zs. given_values types (expression_and e (to_expressions fs)) zs and_then λ ws. Ok (vs ++ ws)) (drop_past sets (length es) at)

  -- ---- along the fields of the code, of which each stands for an expression

  module _ {X : Type 0} (meaning : X → Expression) where
    -- the values of the first i fields are these
    abbrev pub GivenSoFar : {A : Type 0} → List X → List (FieldSet A) → ℕ → List (code.Value A) → Type 0
    GivenSoFar items sets i all = given_values types (to_expressions (map meaning (take i items))) (sets_of sets) ≡ Ok (values_of all)

    module _ {A : Type 0} (items : List X) (sets : List (FieldSet A)) (i : ℕ) (item : X) (all : List (code.Value A)) (so_far : GivenSoFar items sets i all) (within : i < length items) (read : item ≡ get_or items i item) where
      -- so many fields are before it
      counted : length (map meaning (take i items)) ≡ i
      counted = length-map (take i items) meaning ∙ length-take-le i items (omega (arith, within))

      -- its set
      set_at : (set : FieldSet A) → slice_get sets i ≡ Some set → slice_get (sets_of sets) (length (map meaning (take i items))) ≡ Some (field_values set)
      set_at set at = ap (slice_get (sets_of sets)) counted ∙ get_some field_values sets i set at

      -- the fields before it, itself and those behind it
      split : map meaning items ≡ map meaning (take i items) ++ meaning item ∷ map meaning (drop (i + 1) items)
      split =
          ap (map meaning) (sym (take-append-drop i items) ∙ ap (λ zs. take i items ++ zs) (drop_more items i item within ∙ ap (λ z. z ∷ drop (i + 1) items) (sym read)))
          ∙ map-append meaning (take i items) (item ∷ drop (i + 1) items)

      -- its value is the next
      pub next_given : (set : FieldSet A) (v : code.Value A) (more : List (code.Value A)) → slice_get sets i ≡ Some set → given types (meaning item) (field_values set) ≡ Ok (value_of v) → more ≡ all ++ v ∷ [] → GivenSoFar items sets (i + 1) more
      next_given set v more at one pushed =
          let longer = ap (map meaning) (take_more items i item within ∙ ap (λ z. take i items ++ z ∷ []) (sym read)) ∙ map-append meaning (take i items) (item ∷ []) in
          ap (λ es. given_values types (to_expressions es) (sets_of sets)) longer ∙ one_given (map meaning (take i items)) (values_of all) (sets_of sets) so_far (meaning item) (field_values set) (value_of v) (set_at set at) one
          ∙ ap Ok (sym (map-append value_of all (v ∷ [])) ∙ ap values_of (sym pushed))

      -- it has no value
      pub given_stops : {Y Z : Type 0} (one : Y → Value) (several : Z → List Value) (set : FieldSet A) (why : NoValue) → slice_get sets i ≡ Some set → AgreesWith one (Err why) (given types (meaning item) (field_values set)) →
          AgreesWith several (Err why) (given_values types (to_expressions (map meaning items)) (sets_of sets))
      given_stops one several set (eval.Cause c) at none =
          ap (λ es. given_values types (to_expressions es) (sets_of sets)) split
          ∙ one_stops (map meaning (take i items)) (values_of all) (sets_of sets) so_far (meaning item) (map meaning (drop (i + 1) items)) (field_values set) (cause_of c) (set_at set at) none
      given_stops one several set eval.Memory at none = tt

      -- it has no set
      pub too_many : slice_get sets i ≡ None → given_values types (to_expressions (map meaning items)) (sets_of sets) ≡ Err IllKinded
      too_many at =
          ap (λ es. given_values types (to_expressions es) (sets_of sets)) split
          ∙ one_too_many (map meaning (take i items)) (values_of all) (sets_of sets) so_far (meaning item) (map meaning (drop (i + 1) items)) (ap (slice_get (sets_of sets)) counted ∙ get_none field_values sets i at)
