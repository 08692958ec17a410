-- A test that is true exactly where two values stand for the same.
use Rattle.std.proofs.Common.{◌≡◌, ℕ, Bool, true, nat_eq, List, [], ◌∷◌, map, refl, sym, ◌∙◌, ap₂, subst, IsTrue, ◌↔◌}
use Rattle.std.proofs.lemmas.Bool.{eqb-true, eq-eqb}
use Rattle.std.specs.Cmp.Lexicographic.{same_text}
pub use Rattle.std.proofs.lemmas.Bool.{and_from as both}
pub use Rattle.theory_syntax.proofs.Truths.{and_first, and_second}
use lib.Pointwise.{pointwise}

pub record Tells {X Y : Type 0} (test : X → X → Bool) (meaning : X → Y) : Type 0 where
  pub sound : (x y : X) → test x y ≡ true → meaning x ≡ meaning y
  pub complete : (x y : X) → meaning x ≡ meaning y → test x y ≡ true

-- numbers stand for themselves
pub nat_tells : Tells nat_eq (λ n. n)
nat_tells = record { sound = eqb-true; complete = eq-eqb }

text_refl : (xs : List ℕ) → pointwise nat_eq xs xs ≡ true
text_refl [] = refl
text_refl (x ∷ xs) = both (nat_eq x x) (pointwise nat_eq xs xs) (eq-eqb x x refl) (text_refl xs)

-- texts stand for themselves
pub text_tells : Tells (pointwise nat_eq) (λ xs. xs)
text_tells = record {
  sound = λ xs ys e. same_text xs ys (sym e);
  complete = λ xs ys e. let P : List ℕ → Type 0 = λ zs. pointwise nat_eq xs zs ≡ true in subst P e (text_refl xs);
}

-- two lists item by item
module _ {X Y : Type 0} (test : X → X → Bool) (meaning : X → Y) (t : Tells test meaning) where
  lists_sound : (xs ys : List X) → pointwise test xs ys ≡ true → map meaning xs ≡ map meaning ys
  lists_sound [] [] e = refl
  lists_sound [] (y ∷ ys) e = absurd (cc e)
  lists_sound (x ∷ xs) [] e = absurd (cc e)
  lists_sound (x ∷ xs) (y ∷ ys) e = ap₂ (λ z zs. z ∷ zs) (t.sound x y (and_first (test x y) (pointwise test xs ys) e)) (lists_sound xs ys (and_second (test x y) (pointwise test xs ys) e))

  lists_complete : (xs ys : List X) → map meaning xs ≡ map meaning ys → pointwise test xs ys ≡ true
  lists_complete [] [] e = refl
  lists_complete [] (y ∷ ys) e = absurd (cc e)
  lists_complete (x ∷ xs) [] e = absurd (cc e)
  lists_complete (x ∷ xs) (y ∷ ys) e = both (test x y) (pointwise test xs ys) (t.complete x y (cc e)) (lists_complete xs ys (cc e))

  pub lists_tell : Tells (pointwise test) (map meaning)
  lists_tell = record { sound = lists_sound; complete = lists_complete }

-- what such a test has told
pub decided : {X Y : Type 0} {test : X → X → Bool} {meaning : X → Y} → Tells test meaning → (x y : X) (r : Bool) → r ≡ test x y → IsTrue r ↔ (meaning x ≡ meaning y)
decided t x y r is = (λ e. t.sound x y (sym is ∙ e), λ e. is ∙ t.complete x y e)
