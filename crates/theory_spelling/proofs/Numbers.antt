-- A number that is read is the one that was spelled, and a spelled number is read again.
use Rattle.std.proofs.Common.{◌≡◌, ℕ, ℤ, zero, suc, ◌+◌, ◌^◌, ◌<◌, ◌≤◌, Bool, true, false, cond, ltb, List, [], ◌∷◌, ◌++◌, length, take, drop, Some, None, refl, sym, ap, subst, ◌∙◌, arith, inl, inr}
use Rattle.std.specs.Prelude.{FitsSigned}
use Rattle.std.specs.Int.{w32, from_le_bytes, to_le_bytes, cast_signed, cast_unsigned}
use Rattle.std.proofs.lemmas.Bool.{cases_lt, ltb-false, le-ltb}
use Rattle.std.proofs.lemmas.List.{take_at, drop_at, take-append-drop, length-append, length-take, get_or-drop, get_or-take, get_or_past}
use Rattle.std.proofs.lemmas.Nat.{le_bytes_4, from_le_bytes-to_le_bytes_4}
use Rattle.std.proofs.lemmas.Int.{to_z-of_z, of_z-to_z}
use Rattle.std.proofs.Math.Facts.{Fits-of_z, sfits_to_z, Fits-lt-pow, Fits-of_lt}
use Rattle.theory_spelling.specs.Spelling.{number_spelling, whole_spelling, truth_spelling}
use Rattle.theory_spelling.specs.Reading.{IsBytes, Found, found_as, number_at, whole_at, truth_at}

pub IsBytes-rest : (b : ℕ) (bytes : List ℕ) → IsBytes (b ∷ bytes) → IsBytes bytes
IsBytes-rest b bytes h i = h (suc i)

IsBytes-drop : (n : ℕ) (bytes : List ℕ) → IsBytes bytes → IsBytes (drop n bytes)
IsBytes-drop n bytes h i = rw get_or-drop (h (n + i))

IsBytes-take : (n : ℕ) (bytes : List ℕ) → IsBytes bytes → IsBytes (take n bytes)
IsBytes-take n bytes h i =
    elim (cases_lt i n) [
      | inl lt ↦ rw (get_or-take n bytes i 0 lt) (h i)
      | inr le ↦ rw (get_or_past (take n bytes) i 0 (omega (arith, length-take n bytes))) (omega arith)
    ]

-- what is read is spelled at the front of the bytes, and is spellable
pub record Spells {X : Type 0} (spelled : X → List ℕ) (Fits : X → Type 0) (bytes : List ℕ) (x : X) (rest : List ℕ) : Type 0 where
  pub parts : bytes ≡ spelled x ++ rest
  pub left : IsBytes rest
  pub fits : Fits x

-- a way of reading takes no more than the spelling of what it finds
abbrev pub Takes : {X : Type 0} → (List ℕ → Found X) → (X → List ℕ) → (X → Type 0) → Type 0
Takes {X} read spelled Fits = (bytes : List ℕ) (x : X) (rest : List ℕ) → IsBytes bytes → read bytes ≡ Some (x, rest) → Spells spelled Fits bytes x rest

-- a way of reading finds what is spelled
abbrev pub Again : {X : Type 0} → (List ℕ → Found X) → (X → List ℕ) → X → Type 0
Again read spelled x = (rest : List ℕ) → read (spelled x ++ rest) ≡ Some (x, rest)

-- a test that did not fail
guard_some : {A : Type 0} (b : Bool) (x y : A) → cond b None (Some x) ≡ Some y → (b ≡ false) × (x ≡ y)
guard_some true x y e = absurd cc
guard_some false x y e = (refl, cc)

abbrev pub IsNumber : ℕ → Type 0
IsNumber n = n < 2 ^ 32

below_limit : (bytes : List ℕ) → IsBytes bytes → from_le_bytes w32 bytes < 2 ^ 32
below_limit bytes fits = omega (arith, fits 0, fits 1, fits 2, fits 3)

pub number_takes : Takes number_at number_spelling IsNumber
unfolding number_at number_spelling
number_takes bytes n rest fits e =
    let g = guard_some (ltb (length bytes) 4) (from_le_bytes w32 (take 4 bytes), drop 4 bytes) (n, rest) e in
    let long : 4 ≤ length bytes = ltb-false _ _ g.0 in
    let n-is : from_le_bytes w32 (take 4 bytes) ≡ n = ap (λ (p : ℕ × List ℕ). p.0) g.1 in
    let rest-is : drop 4 bytes ≡ rest = ap (λ (p : ℕ × List ℕ). p.1) g.1 in
    let front : to_le_bytes w32 n ≡ take 4 bytes = le_bytes_4 (take 4 bytes) n (omega (arith, length-take 4 bytes)) (IsBytes-take 4 bytes fits) (sym n-is) in
    record {
      parts = sym (take-append-drop 4 bytes) ∙ ap (λ (t : List ℕ). t ++ drop 4 bytes) (sym front) ∙ ap (λ (r : List ℕ). to_le_bytes w32 n ++ r) rest-is;
      left = subst IsBytes rest-is (IsBytes-drop 4 bytes fits);
      fits = subst (λ (k : ℕ). k < 2 ^ 32) n-is (below_limit (take 4 bytes) (IsBytes-take 4 bytes fits));
    }

front_read : (front rest : List ℕ) → length front ≡ 4 → number_at (front ++ rest) ≡ Some (from_le_bytes w32 front, rest)
unfolding number_at
front_read front rest len =
    let long : ltb (length (front ++ rest)) 4 ≡ false = le-ltb _ _ (omega (arith, length-append front rest)) in
    rw (long, take_at front rest 4 len, drop_at front rest 4 len) refl

pub number_again : (n : ℕ) → IsNumber n → Again number_at number_spelling n
unfolding number_spelling
number_again n lt rest = front_read (to_le_bytes w32 n) rest refl ∙ ap (λ (k : ℕ). Some (k, rest)) (from_le_bytes-to_le_bytes_4 n lt)

-- what is made of what was read
pub as_some : {X Y : Type 0} (f : X → Y) (r : Found X) (y : Y) (rest : List ℕ) → found_as f r ≡ Some (y, rest) → (x : X) × (r ≡ Some (x, rest)) × (f x ≡ y)
as_some {X} {Y} f (Some x) y rest e =
    let f-is : (f x.0, x.1) ≡ (y, rest) = cc e in
    (x.0, ap (λ (t : List ℕ). Some (x.0, t)) (ap (λ (p : Y × List ℕ). p.1) f-is), ap (λ (p : Y × List ℕ). p.0) f-is)
as_some {X} {Y} f None y rest e = absurd cc

pub whole_takes : Takes whole_at whole_spelling (FitsSigned w32)
unfolding whole_at whole_spelling
whole_takes bytes z rest fits e =
    let a = as_some (cast_signed w32) (number_at bytes) z rest e in
    let t = number_takes bytes a.0 rest fits a.1 in
    let back : cast_unsigned w32 z ≡ a.0 = ap (cast_unsigned w32) (sym a.2) ∙ of_z-to_z w32 a.0 t.fits in
    record {
      parts = t.parts ∙ ap (λ (k : ℕ). number_spelling k ++ rest) (sym back);
      left = t.left;
      fits = subst (FitsSigned w32) a.2 (sfits_to_z {w = w32} {n = a.0} (Fits-of_lt {w = w32} {n = a.0} t.fits));
    }

pub whole_again : (z : ℤ) → FitsSigned w32 z → Again whole_at whole_spelling z
unfolding whole_at whole_spelling
whole_again z fits rest = rw (number_again (cast_unsigned w32 z) (Fits-lt-pow {w = w32} {n = cast_unsigned w32 z} (Fits-of_z {w = w32} {z = z} fits)) rest, to_z-of_z w32 z fits) refl

pub truth_takes : Takes truth_at truth_spelling (λ b. Unit {0})
unfolding truth_at
truth_takes [] b rest fits e = absurd cc
truth_takes (zero ∷ bytes) b rest fits e =
    subst (λ (x : Bool × List ℕ). Spells truth_spelling (λ c. Unit {0}) (0 ∷ bytes) x.0 x.1) (let f : (false, bytes) ≡ (b, rest) = cc e in f) (record { parts = refl; left = IsBytes-rest 0 bytes fits; fits = tt })
truth_takes (suc zero ∷ bytes) b rest fits e =
    subst (λ (x : Bool × List ℕ). Spells truth_spelling (λ c. Unit {0}) (1 ∷ bytes) x.0 x.1) (let f : (true, bytes) ≡ (b, rest) = cc e in f) (record { parts = refl; left = IsBytes-rest 1 bytes fits; fits = tt })
truth_takes (suc (suc n) ∷ bytes) b rest fits e = absurd cc

pub truth_again : (b : Bool) → Again truth_at truth_spelling b
unfolding truth_at
truth_again false rest = refl
truth_again true rest = refl
