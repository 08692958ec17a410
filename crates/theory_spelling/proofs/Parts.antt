-- Parts that are read one after the other.
use Rattle.std.proofs.Common.{◌≡◌, ℕ, zero, suc, ◌^◌, ◌<◌, Bool, true, false, cond, eqb, List, [], ◌∷◌, ◌++◌, length, Option, Some, None, refl, sym, ap, subst, ◌∙◌, append_assoc}
use Rattle.std.specs.List.{flat_map, AllByRecursion}
use Rattle.std.proofs.lemmas.Bool.{eqb-true}
use Rattle.theory_spelling.specs.Spelling.{number_spelling, list_spelling}
use Rattle.theory_spelling.specs.Spellable.{IsSpellableList}
use Rattle.theory_spelling.specs.Reading.{IsBytes, Found, ◌>>=◌, found_as, both, number_at, items_at, list_at, two_at}
use Rattle.theory_spelling.proofs.Numbers.{Spells, Takes, Again, number_takes, number_again, as_some}

-- what a step that did not fail found
pub bind_some : {A B : Type 0} (r : Option A) (f : A → Option B) (y : B) → (r >>= f) ≡ Some y → (x : A) × (r ≡ Some x) × (f x ≡ Some y)
bind_some (Some x) f y e = (x, refl, e)
bind_some None f y e = absurd cc

pub some_is : {A : Type 0} (x y : A) → Some x ≡ Some y → x ≡ y
some_is x y e = cc

-- the tag is this one, or what comes behind it in the list of the tags was read
pub at_tag : {X : Type 0} {P : Type 0} (tag k : ℕ) {x y z : X} → cond (eqb tag k) x y ≡ z → (tag ≡ k → x ≡ z → P) → (y ≡ z → P) → P
at_tag {X} {P} tag k {x} {y} {z} e yes_is no_is = cases (eqb tag k) refl e
  where
    cases : (b : Bool) → eqb tag k ≡ b → cond b x y ≡ z → P
    cases true is f = yes_is (eqb-true tag k is) f
    cases false is f = no_is f

pub both_takes : {X Y : Type 0} (read : List ℕ → Found X) (other : List ℕ → Found Y) (spelled : X → List ℕ) (spelled_too : Y → List ℕ) (Fits : X → Type 0) (FitsToo : Y → Type 0)
    → Takes read spelled Fits → Takes other spelled_too FitsToo → Takes (both read other) (λ p. spelled p.0 ++ spelled_too p.1) (λ p. Fits p.0 × FitsToo p.1)
both_takes {X} {Y} read other spelled spelled_too Fits FitsToo takes takes_too bytes p rest fits e =
    let a = bind_some (read bytes) (λ x. other x.1 >>= λ y. Some ((x.0, y.0), y.1)) (p, rest) e in
    let b = bind_some (other a.0.1) (λ y. Some ((a.0.0, y.0), y.1)) (p, rest) a.2 in
    let s = takes bytes a.0.0 a.0.1 fits a.1 in
    let t = takes_too a.0.1 b.0.0 b.0.1 s.left b.1 in
    let made : (X × Y) × List ℕ = ((a.0.0, b.0.0), b.0.1) in
    subst (λ (y : (X × Y) × List ℕ). Spells (λ p. spelled p.0 ++ spelled_too p.1) (λ p. Fits p.0 × FitsToo p.1) bytes y.0 y.1) (some_is made (p, rest) b.2)
    (record {
      parts = s.parts ∙ ap (λ (t : List ℕ). spelled a.0.0 ++ t) t.parts ∙ sym (append_assoc (spelled a.0.0) (spelled_too b.0.0) b.0.1);
      left = t.left;
      fits = (s.fits, t.fits);
    })

pub both_again : {X Y : Type 0} (read : List ℕ → Found X) (other : List ℕ → Found Y) (spelled : X → List ℕ) (spelled_too : Y → List ℕ) (x : X) (y : Y)
    → Again read spelled x → Again other spelled_too y → Again (both read other) (λ p. spelled p.0 ++ spelled_too p.1) (x, y)
both_again read other spelled spelled_too x y again again_too rest =
    ap (both read other) (append_assoc (spelled x) (spelled_too y) rest) ∙ rw (again (spelled_too y ++ rest), again_too rest) refl

-- what is made of what was read
pub as_takes : {X Y : Type 0} (read : List ℕ → Found X) (spelled : X → List ℕ) (Fits : X → Type 0) (f : X → Y) (spelled_so : Y → List ℕ) (FitsSo : Y → Type 0)
    → ((x : X) → spelled_so (f x) ≡ spelled x) → ((x : X) → Fits x → FitsSo (f x)) → Takes read spelled Fits → Takes (λ bytes. found_as f (read bytes)) spelled_so FitsSo
as_takes read spelled Fits f spelled_so FitsSo same fit takes bytes y rest fits e =
    let a = as_some f (read bytes) y rest e in
    let s = takes bytes a.0 rest fits a.1 in
    subst (λ y. Spells spelled_so FitsSo bytes y rest) a.2 (record { parts = s.parts ∙ ap (λ (t : List ℕ). t ++ rest) (sym (same a.0)); left = s.left; fits = fit a.0 s.fits })

-- the same behind a tag
pub behind_takes : {X Y : Type 0} (read : List ℕ → Found X) (spelled : X → List ℕ) (Fits : X → Type 0) (f : X → Y) (spelled_so : Y → List ℕ) (FitsSo : Y → Type 0) (tag k : ℕ)
    → ((x : X) → spelled_so (f x) ≡ k ∷ spelled x) → ((x : X) → Fits x → FitsSo (f x)) → Takes read spelled Fits
    → (bytes : List ℕ) (y : Y) (rest : List ℕ) → IsBytes bytes → tag ≡ k → found_as f (read bytes) ≡ Some (y, rest) → Spells spelled_so FitsSo (tag ∷ bytes) y rest
behind_takes read spelled Fits f spelled_so FitsSo tag k same fit takes bytes y rest fits is e =
    let a = as_some f (read bytes) y rest e in
    let s = takes bytes a.0 rest fits a.1 in
    subst (λ y. Spells spelled_so FitsSo (tag ∷ bytes) y rest) a.2
    (record { parts = ap (λ (t : ℕ). t ∷ bytes) is ∙ ap (λ (t : List ℕ). k ∷ t) s.parts ∙ ap (λ (t : List ℕ). t ++ rest) (sym (same a.0)); left = s.left; fits = fit a.0 s.fits })

abbrev found : {Y : Type 0} → Y → List ℕ → Found Y
found y rest = Some (y, rest)

-- a form of the tag alone
pub alone_takes : {Y : Type 0} (y : Y) (spelled_so : Y → List ℕ) (FitsSo : Y → Type 0) (tag k : ℕ) → spelled_so y ≡ k ∷ [] → FitsSo y
    → (bytes : List ℕ) (z : Y) (rest : List ℕ) → IsBytes bytes → tag ≡ k → found y bytes ≡ found z rest → Spells spelled_so FitsSo (tag ∷ bytes) z rest
alone_takes {Y} y spelled_so FitsSo tag k same fit bytes z rest fits is e =
    subst (λ (x : Y × List ℕ). Spells spelled_so FitsSo (tag ∷ bytes) x.0 x.1) (some_is (y, bytes) (z, rest) e)
    (record { parts = ap (λ (t : ℕ). t ∷ bytes) is ∙ ap (λ (t : List ℕ). t ++ bytes) (sym same); left = fits; fits = fit })

-- two of a kind behind a tag
pub two_takes : {X : Type 0} (read : List ℕ → Found X) (spelled : X → List ℕ) (Fits : X → Type 0) (made : X → X → X) (tag k : ℕ)
    → ((x y : X) → spelled (made x y) ≡ k ∷ (spelled x ++ spelled y)) → ((x y : X) → Fits x × Fits y → Fits (made x y)) → Takes read spelled Fits
    → (bytes : List ℕ) (y : X) (rest : List ℕ) → IsBytes bytes → tag ≡ k → two_at read made bytes ≡ Some (y, rest) → Spells spelled Fits (tag ∷ bytes) y rest
unfolding two_at
two_takes {X} read spelled Fits made tag k same fit takes =
    behind_takes (both read read) (λ (p : X × X). spelled p.0 ++ spelled p.1) (λ (p : X × X). Fits p.0 × Fits p.1) (λ p. made p.0 p.1) spelled Fits tag k (λ p. same p.0 p.1) (λ p. fit p.0 p.1) (both_takes read read spelled spelled Fits Fits takes takes)

pub two_again : {X : Type 0} (read : List ℕ → Found X) (spelled : X → List ℕ) (made : X → X → X) (x y : X) → Again read spelled x → Again read spelled y
    → (rest : List ℕ) → two_at read made ((spelled x ++ spelled y) ++ rest) ≡ Some (made x y, rest)
unfolding two_at
two_again read spelled made x y again again_too rest = ap (found_as (λ p. made p.0 p.1)) (both_again read read spelled spelled x y again again_too rest)

-- ---- lists

items_take : {X : Type 0} (read : List ℕ → Found X) (spelled : X → List ℕ) (Fits : X → Type 0) → Takes read spelled Fits
    → (n : ℕ) → Takes (items_at read n) (flat_map spelled) (λ xs. (length xs ≡ n) × AllByRecursion Fits xs)
unfolding items_at
items_take {X} read spelled Fits takes zero bytes xs rest fits e =
    subst (λ (y : List X × List ℕ). Spells (flat_map spelled) (λ xs. (length xs ≡ 0) × AllByRecursion Fits xs) bytes y.0 y.1) (some_is ([], bytes) (xs, rest) e)
    (record { parts = refl; left = fits; fits = (refl, tt) })
items_take {X} read spelled Fits takes (suc n) bytes xs rest fits e =
    as_takes (both read (items_at read n)) (λ (p : X × List X). spelled p.0 ++ flat_map spelled p.1) (λ (p : X × List X). Fits p.0 × ((length p.1 ≡ n) × AllByRecursion Fits p.1)) (λ p. p.0 ∷ p.1)
    (flat_map spelled) (λ xs. (length xs ≡ suc n) × AllByRecursion Fits xs) (λ p. refl) (λ p h. (ap suc h.1.0, (h.0, h.1.1)))
    (both_takes read (items_at read n) spelled (flat_map spelled) Fits (λ xs. (length xs ≡ n) × AllByRecursion Fits xs) takes (items_take read spelled Fits takes n))
    bytes xs rest fits e

pub list_takes : {X : Type 0} (read : List ℕ → Found X) (spelled : X → List ℕ) (Fits : X → Type 0) → Takes read spelled Fits → Takes (list_at read) (list_spelling spelled) (IsSpellableList Fits)
unfolding list_at
list_takes read spelled Fits takes bytes xs rest fits e =
    let a = bind_some (number_at bytes) (λ n. items_at read n.0 n.1) (xs, rest) e in
    let s = number_takes bytes a.0.0 a.0.1 fits a.1 in
    let t = items_take read spelled Fits takes a.0.0 a.0.1 xs rest s.left a.2 in
    let whole : bytes ≡ (number_spelling a.0.0 ++ flat_map spelled xs) ++ rest = s.parts ∙ ap (λ (r : List ℕ). number_spelling a.0.0 ++ r) t.parts ∙ sym (append_assoc (number_spelling a.0.0) (flat_map spelled xs) rest) in
    record {
      parts = whole ∙ ap (λ (k : ℕ). (number_spelling k ++ flat_map spelled xs) ++ rest) (sym t.fits.0);
      left = t.left;
      fits = (subst (λ (k : ℕ). k < 2 ^ 32) (sym t.fits.0) s.fits, t.fits.1);
    }

items_again : {X : Type 0} (read : List ℕ → Found X) (spelled : X → List ℕ) (xs : List X) → AllByRecursion (Again read spelled) xs → Again (items_at read (length xs)) (flat_map spelled) xs
unfolding items_at
items_again read spelled [] each rest = refl
items_again read spelled (x ∷ xs) each rest =
    ap (found_as (λ p. p.0 ∷ p.1)) (both_again read (items_at read (length xs)) spelled (flat_map spelled) x xs each.0 (items_again read spelled xs each.1) rest)

pub list_again : {X : Type 0} (read : List ℕ → Found X) (spelled : X → List ℕ) (xs : List X) → length xs < 2 ^ 32 → AllByRecursion (Again read spelled) xs → Again (list_at read) (list_spelling spelled) xs
unfolding list_at
list_again read spelled xs short each rest =
    ap (list_at read) (append_assoc (number_spelling (length xs)) (flat_map spelled xs) rest) ∙ rw (number_again (length xs) short (flat_map spelled xs ++ rest)) (items_again read spelled xs each rest)
