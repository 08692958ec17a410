-- The places of arguments on a command line.
use Rattle.std.proofs.Common.{zero, suc, ◌≡◌, ◌∙◌, ◌<◌, ◌||◌, ◌&&◌, ℕ, Bool, List, [], ◌∷◌, Option, Some, None, is_some, length, codes, true, false, not, refl, sym, ap, arith, true≢false}
use Rattle.std.specs.List.{list_all, slice_index_or}
use Rattle.std.specs.Str.{bytes_eq}
use Rattle.std.proofs.lemmas.Slice.Eq.{bytes_eq-Decides}
use Rattle.clap.specs.Walk.{Rule, Text}

-- ---- an id that one argument has

-- the rule at the place has the id, and no other one
abbrev pub is_only_at : Text → ℕ → List Rule → Bool
is_only_at id k [] = false
is_only_at id zero (r ∷ rules) = list_all (λ s. not (bytes_eq s.id id)) rules
is_only_at id (suc k) (r ∷ rules) = not (bytes_eq r.id id) && is_only_at id k rules

both : (a b : Bool) → (a && b) ≡ true → (a ≡ true) × (b ≡ true)
both true b e = (refl, e)
both false b e = absurd (true≢false (sym e))

not_so : (b : Bool) → not b ≡ true → b ≡ true → ⊥
not_so true e f = true≢false (sym e)
not_so false e f = true≢false (sym f)

none_has : (id : Text) (rules : List Rule) → list_all (λ s. not (bytes_eq s.id id)) rules ≡ true → (j : ℕ) (e : Rule) → j < length rules → bytes_eq (slice_index_or rules j e).id id ≡ true → ⊥
none_has id [] all j e lt same = absurd (omega arith)
none_has id (r ∷ rules) all zero e lt same = not_so (bytes_eq r.id id) (both _ _ all).0 same
none_has id (r ∷ rules) all (suc j) e lt same = none_has id rules (both (not (bytes_eq r.id id)) _ all).1 j e (omega arith) same

pub only_at : (id : Text) (k : ℕ) (rules : List Rule) → is_only_at id k rules ≡ true → (j : ℕ) (e : Rule) → j < length rules → bytes_eq (slice_index_or rules j e).id id ≡ true → j ≡ k
only_at id k [] only j e lt same = absurd (omega arith)
only_at id zero (r ∷ rules) only zero e lt same = refl
only_at id zero (r ∷ rules) only (suc j) e lt same = absurd (none_has id rules only j e (omega arith) same)
only_at id (suc k) (r ∷ rules) only zero e lt same = absurd (not_so (bytes_eq r.id id) (both _ _ only).0 same)
only_at id (suc k) (r ∷ rules) only (suc j) e lt same = ap suc (only_at id k rules (both (not (bytes_eq r.id id)) _ only).1 j e (omega arith) same)

-- ---- an answer that is some text, and the text

pub text_of : (o : Option Text) → is_some o ≡ true → (t : Text) × (o ≡ Some t)
text_of None h = absurd (true≢false (sym h))
text_of (Some t) h = (t, refl)

pub differ : (a b : Text) → bytes_eq a b ≡ false → a ≡ b → ⊥
differ a b apart e = true≢false (sym ((bytes_eq-Decides a b).1 e) ∙ apart)

pub head_of : {X : Type 0} (xs : List X) → 0 < length xs → X
head_of [] lt = absurd (omega arith)
head_of (x ∷ xs) lt = x

-- the id is no flag of the command line's own
abbrev pub is_own : Text → Bool
is_own id = bytes_eq id [] || (bytes_eq id (codes "help") || bytes_eq id (codes "version"))

pub neither : (a b : Bool) → (a || b) ≡ false → (a ≡ false) × (b ≡ false)
neither true b e = absurd (true≢false e)
neither false b e = (refl, e)
