-- Sets that are listed in order.
use Rattle.std.proofs.Common.{◌≡◌, ℕ, zero, suc, ◌+◌, ◌<◌, ◌≤◌, ◌++◌, nat_le, ℤ, pos, negsuc, ◌+ℤ◌, ◌-ℤ◌, cond, Bool, true, false, List, [], ◌∷◌, length, Result, Ok, Err, refl, sym, ◌∙◌, ap, ap₂, subst, arith, add-one}
use Rattle.std.specs.Prelude.{int_lt}
use Rattle.std.specs.Int.{w32}
use Rattle.std.specs.Int.RustNames.{FitsSigned, unsigned_abs}
use lib.Signed.{◌≤ℤ◌}
use mir.Val.{to_z}
use Rattle.std.proofs.lemmas.Int.{ints}
use Rattle.std.specs.declared.cmp.Ordering.TheVariants.{Less}
use Rattle.std.specs.Ordering.{is_lt}
use Rattle.std.specs.Cmp.{int_cmp_is}
use Rattle.theory_syntax.specs.Value.{Value, Integer, Set, to_values, sorted_values}
use Rattle.theory_semantics.specs.Meaning.Evaluation.{Cause, Overflow, count_between, max_members, numbers_from, range, set_of}
use Rattle.csp_value.proofs.Sets.{Rises, rising_alike, sorted_rise, sorted_have}

-- what rises is sorted
pub sorted_already : (vs : List Value) → Rises vs → sorted_values vs ≡ vs
sorted_already vs rises = rising_alike (sorted_values vs) vs (sorted_rise vs) rises (sorted_have vs)

-- a list of no more than 1,024 values that rises is the set of its values
pub set_of_rising : (vs : List Value) → Rises vs → nat_le (length vs) max_members ≡ true → set_of vs ≡ Ok (Set (to_values (sorted_values vs)))
set_of_rising vs rises few = rw few (ap (λ ws. Ok (Set (to_values ws))) (sym (sorted_already vs rises)))

-- ---- numbers

pub numbers_rise : (x : ℤ) (n : ℕ) → Rises (numbers_from x n)
numbers_rise x zero = tt
numbers_rise x (suc zero) = tt
numbers_rise x (suc (suc n)) = (ap is_lt (sym (int_cmp_is x (x +ℤ pos 1) Less (omega (arith, ints)))), numbers_rise (x +ℤ pos 1) (suc n))

pub numbers_length : (x : ℤ) (n : ℕ) → length (numbers_from x n) ≡ n
numbers_length x zero = refl
numbers_length x (suc n) = ap suc (numbers_length (x +ℤ pos 1) n)

numbers_next : (x : ℤ) (n : ℕ) → numbers_from x (suc n) ≡ numbers_from x n ++ Integer (x +ℤ pos n) ∷ []
numbers_next x zero = ap (λ z. Integer z ∷ []) (omega (arith, ints))
numbers_next x (suc n) = ap (λ vs. Integer x ∷ vs) (numbers_next (x +ℤ pos 1) n ∙ ap (λ z. numbers_from (x +ℤ pos 1) n ++ Integer z ∷ []) (omega (arith, ints)))

pub numbers_more : (x : ℤ) (n : ℕ) → numbers_from x (n + 1) ≡ numbers_from x n ++ Integer (x +ℤ pos n) ∷ []
numbers_more x n = rw (add-one n) (numbers_next x n)

-- as many numbers as there are from x to y lie no further than y
no_further : (x y : ℤ) (i : ℕ) → i < count_between x y → (x +ℤ pos i) ≤ℤ y
no_further x y i within = by_order (int_lt y x) refl within
  where
    by_difference : (z : ℤ) → z ≡ y -ℤ x → int_lt y x ≡ false → i < unsigned_abs z + 1 → (x +ℤ pos i) ≤ℤ y
    by_difference (pos n) is order h = omega (arith, ints)
    by_difference (negsuc n) is order h = grind (arith, ints)

    by_order : (b : Bool) → int_lt y x ≡ b → i < cond b 0 (unsigned_abs (y -ℤ x) + 1) → (x +ℤ pos i) ≤ℤ y
    by_order true is h = absurd (let none : ⊥ = omega (arith, h) in none)
    by_order false is h = by_difference (y -ℤ x) refl is h

-- and so they have 32 bits, as both have
pub sum_fits : (x y first last : ℤ) (i n : ℕ) → first ≡ x → last ≡ y → FitsSigned w32 x → FitsSigned w32 y → n ≡ count_between first last → n ≤ max_members → i < n → FitsSigned w32 (first +ℤ to_z w32 i)
sum_fits x y first last i n at_first at_last x_fits y_fits counted few within =
    let place : i < count_between x y = subst (λ m. i < m) (counted ∙ ap₂ count_between at_first at_last) within in
    let bound = no_further x y i place in
    omega (arith, ints)

abbrev limited : (x y : ℤ) → Bool → Result Value Cause
limited x y few = elim few [ true ↦ set_of (numbers_from x (count_between x y)) | false ↦ Err Overflow ]

pub range_found : (x y : ℤ) (vs : List Value) → nat_le (count_between x y) max_members ≡ true → vs ≡ numbers_from x (count_between x y) → range x y ≡ Ok (Set (to_values (sorted_values vs)))
range_found x y vs few is =
    ap (limited x y) few ∙ set_of_rising (numbers_from x (count_between x y)) (numbers_rise x (count_between x y)) (ap (λ n. nat_le n max_members) (numbers_length x (count_between x y)) ∙ few)
    ∙ ap (λ ws. Ok (Set (to_values (sorted_values ws)))) (sym is)
