-- Lists of one value of each set, by their numbers.
use Rattle.std.proofs.Common.{◌≡◌, ℕ, zero, suc, ◌+◌, ◌*◌, ◌/◌, ◌%◌, List, [], ◌∷◌, ◌++◌, length, map, Some, slice_get, sym, ◌∙◌, ap, ap₂, arith, length-append}
use Rattle.std.proofs.lemmas.List.{length-map}
use Rattle.std.proofs.Math.Nat.{suc-mul, zero-mul}
use Rattle.theory_syntax.specs.Value.{Value}
use Rattle.theory_syntax.proofs.Places.{get_front, get_some}
use Rattle.theory_shapes.specs.Alphabet.{each_before}
use Rattle.csp_numbers.proofs.Counting.{digits}

get_behind : {X : Type 0} (xs ys : List X) (k : ℕ) → slice_get (xs ++ ys) (length xs + k) ≡ slice_get ys k
get_behind [] ys k = let none : 0 + k ≡ k = omega arith in ap (slice_get ys) none
get_behind (x ∷ xs) ys k = let one : length (x ∷ xs) + k ≡ suc (length xs + k) = omega arith in ap (slice_get ((x ∷ xs) ++ ys)) one ∙ get_behind xs ys k

-- ---- how many there are

pub length_before : (set : List Value) (lists : List (List Value)) → length (each_before set lists) ≡ length set * length lists
length_before [] lists = sym (zero-mul (length lists))
length_before (v ∷ vs) lists =
    length-append (map (λ l. v ∷ l) lists) (each_before vs lists) ∙ ap₂ ◌+◌ (length-map lists (λ l. v ∷ l)) (length_before vs lists) ∙ one_more (length vs) (length lists)
  where
    turned : (a b : ℕ) → a + b ≡ b + a
    turned a b = omega arith

    one_more : (k n : ℕ) → n + k * n ≡ suc k * n
    one_more k n = turned n (k * n) ∙ sym (suc-mul k n)

-- ---- the list of a number

at_before : (set : List Value) (lists : List (List Value)) (i j : ℕ) (v : Value) (l : List Value) → slice_get set i ≡ Some v → slice_get lists j ≡ Some l → slice_get (each_before set lists) (i * length lists + j) ≡ Some (v ∷ l)
at_before [] lists i j v l at_i at_j = absurd (cc at_i)
at_before (w ∷ ws) lists zero j v l at_i at_j =
    let same : w ≡ v = (let f : Some w ≡ Some v = at_i in cc f) in
    ap (slice_get (each_before (w ∷ ws) lists)) (first (length lists) j) ∙ get_front (map (λ m. w ∷ m) lists) (each_before ws lists) j (v ∷ l) (get_some (λ m. w ∷ m) lists j l at_j ∙ ap (λ u. Some (u ∷ l)) same)
  where
    first : (n j : ℕ) → 0 * n + j ≡ j
    first n j = ap (λ k. k + j) (zero-mul n) ∙ (let none : 0 + j ≡ j = omega arith in none)
at_before (w ∷ ws) lists (suc i) j v l at_i at_j =
    let first = map (λ m. w ∷ m) lists in
    let place : suc i * length lists + j ≡ length first + (i * length lists + j) =
    moved (length lists) i j ∙ ap (λ n. n + (i * length lists + j)) (sym (length-map lists (λ m. w ∷ m)))
    in
    ap (slice_get (first ++ each_before ws lists)) place ∙ get_behind first (each_before ws lists) (i * length lists + j) ∙ at_before ws lists i j v l at_i at_j
  where
    around : (a n j : ℕ) → a + n + j ≡ n + (a + j)
    around a n j = omega arith

    moved : (n i j : ℕ) → suc i * n + j ≡ n + (i * n + j)
    moved n i j =
        let more : suc i * n ≡ i * n + n = suc-mul i n in
        let turned : i * n + n + j ≡ n + (i * n + j) = around (i * n) n j in
        ap (λ k. k + j) more ∙ turned

-- the first value by the first digit, and the others by what is left
pub at_number : (set : List Value) (lists : List (List Value)) (number c : ℕ) (v : Value) (l : List Value) → c ≡ length lists → slice_get set (number / c) ≡ Some v → slice_get lists (number % c) ≡ Some l →
    slice_get (each_before set lists) number ≡ Some (v ∷ l)
at_number set lists number c v l counted at_i at_j =
    ap (slice_get (each_before set lists)) (sym (digits number c) ∙ ap (λ n. number / c * n + number % c) counted) ∙ at_before set lists (number / c) (number % c) v l at_i at_j
