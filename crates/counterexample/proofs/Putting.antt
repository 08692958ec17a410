-- Texts that were put one behind the other, and lists without items.
use Rattle.std.proofs.Common.{◌≡◌, ℕ, suc, List, [], ◌∷◌, ◌++◌, Result, Ok, Err, OnOk, length, refl, sym, ◌∙◌, ap, append_assoc, arith}

pub put_behind : (old mid new x y : List ℕ) → mid ≡ old ++ x → new ≡ mid ++ y → new ≡ old ++ (x ++ y)
put_behind old mid new x y first second = second ∙ ap (λ ts. ts ++ y) first ∙ append_assoc old x y

pub no_items : {X : Type 0} (xs : List X) → length xs ≡ 0 → xs ≡ []
no_items [] none = refl
no_items (x ∷ xs) none = let some : suc (length xs) ≡ 0 = none in absurd (omega (arith, some))

-- One more of the texts that are left, in three parts.
pub goes_on_by_three : (old one two new x y z left rest all : List ℕ) → old ++ left ≡ all → left ≡ x ++ (y ++ (z ++ rest)) → one ≡ old ++ x → two ≡ one ++ y → new ≡ two ++ z → new ++ rest ≡ all
goes_on_by_three old one two new x y z left rest all kept is first second third =
    rw (third, second, first) (append_assoc ((old ++ x) ++ y) z rest ∙ append_assoc (old ++ x) y (z ++ rest) ∙ append_assoc old x (y ++ (z ++ rest)))
    ∙ ap (λ ts. old ++ ts) (sym is) ∙ kept

-- The last of the texts that are left.
pub put_last : {T E : Type 0} (r : Result T E) (old mid new x left all : List ℕ) → mid ++ left ≡ old ++ all → left ≡ x → OnOk r (new ≡ mid ++ x) → OnOk r (new ≡ old ++ all)
put_last (Ok t) old mid new x left all kept is put = put ∙ ap (λ ts. mid ++ ts) (sym is) ∙ kept
put_last (Err e) old mid new x left all kept is put = tt
