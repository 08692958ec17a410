-- Lists of lists as they are lent.
use Rattle.std.proofs.Common.{◌≡◌, ◌<◌, ◌≤◌, ◌-◌, ◌==◌, ℕ, true, false, List, [], ◌∷◌, length, take, drop, get_or, sym, ap, ◌∙◌, arith}
use Rattle.std.proofs.lemmas.Bool.{eqb-true}
use Rattle.std.proofs.lemmas.List.{get_or-map, length-map, nil_from_length, take_all}
use Rattle.std.specs.declared.vec.Vec.{Vec}
use Rattle.csp_rows.specs.Told.{items_of}

-- the first of them, and the later ones
pub first_and_later : {A : Type 0} (vs : List (Vec ℕ A)) (v : Vec ℕ A) → 1 ≤ length vs → v ≡ get_or vs 0 v → items_of vs ≡ v.items ∷ items_of (take (length vs - 1) (drop 1 vs))
first_and_later [] v some is = absurd (omega (arith, some))
first_and_later {A} (w ∷ vs) v some is =
    ap (λ (u : Vec ℕ A). u.items ∷ items_of vs) (sym is) ∙ ap (λ (us : List (Vec ℕ A)). v.items ∷ items_of us) (sym (take_all (length (w ∷ vs) - 1) vs (omega arith)))

pub items_count : {A X : Type 0} (vs : List (Vec X A)) → length (items_of vs) ≡ length vs
items_count {A} {X} vs = length-map vs (λ (v : Vec X A). v.items)

pub items_at : {A X : Type 0} (vs : List (Vec X A)) (i : ℕ) (v : Vec X A) → i < length vs → v ≡ get_or vs i v → get_or (items_of vs) i [] ≡ v.items
items_at {A} {X} vs i v within is = get_or-map (λ (u : Vec X A). u.items) vs i v [] within ∙ ap (λ (u : Vec X A). u.items) (sym is)

pub is_none : {X : Type 0} (xs : List X) → true ≡ (length xs == 0) → xs ≡ []
is_none xs none = nil_from_length xs (eqb-true (length xs) 0 (sym none))

pub is_some : {X : Type 0} (xs : List X) → false ≡ (length xs == 0) → xs ≡ [] → ⊥
is_some [] some none = absurd (cc some)
is_some (x ∷ xs) some none = absurd (cc none)
