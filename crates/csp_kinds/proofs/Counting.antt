-- The number of events of a channel, set by set, and the set of a field from its members.
use Rattle.std.specs.Prelude.{nat_eq, take, option_map}
use Rattle.std.proofs.lemmas.Bool.{eqb-true}
use Rattle.std.proofs.lemmas.List.{length-map, map-append, take_more}
use Rattle.std.proofs.Math.Nat.{mul_assoc}
use Rattle.std.proofs.Common.{◌≡◌, ◌<◌, ℕ, suc, ◌+◌, ◌*◌, true, false, List, [], ◌∷◌, ◌++◌, length, get_or, map, Option, Some, None, sym, ap, ◌∙◌, subst, arith}
use Rattle.theory_syntax.specs.Value as pure
use Rattle.theory_checking.specs.Sets.{product_of_sizes, with_some}
use Rattle.csp_value.specs.declared.field_set.FieldSet.{FieldSet}
use Rattle.csp_value.specs.declared.set.SetOf.{SetOf}
use Rattle.csp_value.specs.declared.value.Value.{Value}
use Rattle.csp_value.specs.Value.{members_of, value_of, values_of}
use Rattle.csp_value.proofs.Forms.{listed}
use Rattle.csp_expression.specs.Evaluation.{members_listed}
use Rattle.csp_value.specs.Fields.{field_values}
use Rattle.csp_kinds.specs.Members.{IsCount}

product_and_one : (xs : List (List pure.Value)) (s : List pure.Value) → product_of_sizes (xs ++ s ∷ []) ≡ product_of_sizes xs * length s
product_and_one [] s = omega arith
product_and_one (x ∷ xs) s = ap (λ k. length x * k) (product_and_one xs s) ∙ sym (mul_assoc (length x) (product_of_sizes xs) (length s))

-- one set more
pub count_and_one : {A : Type 0} (sets : List (FieldSet A)) (i : ℕ) (x : FieldSet A) (vs : List (Value A)) (r : Option ℕ) → i < length sets → x ≡ get_or sets i x → values_of vs ≡ pure.values_list (members_of x.values) →
    IsCount r (product_of_sizes (map field_values (take i sets)) * length vs) → IsCount r (product_of_sizes (map field_values (take (i + 1) sets)))
count_and_one sets i x vs r within read members h =
    let size : length vs ≡ length (field_values x) = sym (length-map vs value_of) ∙ ap length members in
    let cut : map field_values (take (i + 1) sets) ≡ map field_values (take i sets) ++ field_values x ∷ [] =
    ap (map field_values) (take_more sets i x within ∙ ap (λ y. take i sets ++ y ∷ []) (sym read)) ∙ map-append field_values (take i sets) (x ∷ []) in
    subst (IsCount r) (ap (λ k. product_of_sizes (map field_values (take i sets)) * k) size ∙ sym (product_and_one (map field_values (take i sets)) (field_values x)) ∙ ap product_of_sizes (sym cut)) h

-- ---- the set of a field

some_zero : (n : ℕ) → nat_eq (suc n) 0 ≡ true → ⊥
some_zero n e = let z : suc n ≡ 0 = eqb-true (suc n) 0 e in omega arith

pub empty_none : {A : Type 0} (vs : List (Value A)) (m : SetOf A) → values_of vs ≡ members_listed m → nat_eq (length vs) 0 ≡ true → None ≡ option_map pure.sorted_values (with_some (members_listed m))
empty_none [] m is e = ap (λ ws. option_map pure.sorted_values (with_some ws)) is
empty_none (v ∷ vs) m is e = absurd (some_zero (length vs) e)

pub filled_some : {A : Type 0} (vs copies : List (Value A)) (m : SetOf A) (fs : FieldSet A) → values_of vs ≡ members_listed m → nat_eq (length vs) 0 ≡ false → values_of copies ≡ values_of vs → members_of fs.values ≡ pure.to_values (pure.sorted_values (values_of copies)) →
    Some (field_values fs) ≡ option_map pure.sorted_values (with_some (members_listed m))
filled_some [] copies m fs is e copied made = absurd (cc e)
filled_some (v ∷ vs) copies m fs is e copied made =
    ap (λ ws. Some (pure.values_list ws)) made ∙ ap Some (listed (pure.sorted_values (values_of copies))) ∙ ap (λ ws. Some (pure.sorted_values ws)) copied
    ∙ ap (λ ws. option_map pure.sorted_values (with_some ws)) is
