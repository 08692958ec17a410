-- Texts that are put one behind the other.
use Rattle.std.proofs.Common.{◌≡◌, ℕ, List, [], ◌++◌, Result, Ok, Err, OnOk, sym, ap, ◌∙◌, append-nil, append_assoc}

-- one text, and behind it another
pub behind : {T E : Type 0} (r : Result T E) (old mid new x y : List ℕ) → mid ≡ old ++ x → OnOk r (new ≡ mid ++ y) → OnOk r (new ≡ old ++ (x ++ y))
behind (Ok t) old mid new x y first second = second ∙ ap (λ ts. ts ++ y) first ∙ append_assoc old x y
behind (Err e) old mid new x y first second = tt

-- a text that is another
pub alike : {T E : Type 0} (r : Result T E) (old new x y : List ℕ) → x ≡ y → OnOk r (new ≡ old ++ x) → OnOk r (new ≡ old ++ y)
alike (Ok t) old new x y same writes = writes ∙ ap (λ ts. old ++ ts) same
alike (Err e) old new x y same writes = tt

-- One more of the texts that are left, of which each has a mark before it: what is left begins with both.
pub goes_on : (old mid new mark x left rest all : List ℕ) → old ++ left ≡ all → left ≡ mark ++ (x ++ rest) → mid ≡ old ++ mark → new ≡ mid ++ x → new ++ rest ≡ all
goes_on old mid new mark x left rest all kept is marked put =
    rw (put, marked) (append_assoc (old ++ mark) x rest ∙ append_assoc old mark (x ++ rest)) ∙ ap (λ ts. old ++ ts) (sym is) ∙ kept

-- the same where no mark stands before it
pub goes_on_bare : (old new x left rest all : List ℕ) → old ++ left ≡ all → left ≡ x ++ rest → new ≡ old ++ x → new ++ rest ≡ all
goes_on_bare old new x left rest all kept is put = rw put (append_assoc old x rest) ∙ ap (λ ts. old ++ ts) (sym is) ∙ kept

-- all that was left is put
pub comes_to_end : (old now left all : List ℕ) → now ++ left ≡ old ++ all → left ≡ [] → now ≡ old ++ all
comes_to_end old now left all kept none = sym (append-nil now) ∙ ap (λ ts. now ++ ts) (sym none) ∙ kept
