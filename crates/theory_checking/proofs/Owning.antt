-- Constructors that are numbered in a row have their datatypes.
use Rattle.std.proofs.Common.{◌≡◌, ℕ, zero, suc, ◌+◌, ◌<◌, List, [], ◌∷◌, ◌++◌, length, slice_get, Some, refl, sym, ◌∙◌, ap, subst, inl, inr, arith}
use Rattle.std.specs.Prelude.{◌⊎◌, replicate, Contains, slice_index_or}
use Rattle.theory_syntax.specs.Types.{Types}
use Rattle.theory_semantics.specs.Kinds.Values.{IsConstructorOf}
use Rattle.theory_checking.specs.Inference.Equations.{Numbering, AreOwners}
use Rattle.theory_checking.specs.Inference.Items.{numbers_from, rows_from, owners_from}

pub row_length : (n k : ℕ) → length (numbers_from n k) ≡ k
row_length n zero = refl
row_length n (suc k) = ap suc (row_length (suc n) k)

indexed : (n k i x : ℕ) → i < k → slice_index_or (numbers_from n k) i x ≡ n + i
indexed n zero i x small = absurd (omega arith)
indexed n (suc k) zero x small = omega arith
indexed n (suc k) (suc i) x small = indexed (suc n) k i x (omega arith) ∙ omega arith

contained : (n k i : ℕ) → i < k → Contains (numbers_from n k) (n + i)
contained n k i small = (i, subst (λ z. i < z) (sym (row_length n k)) small, indexed n k i (n + i) small)

container : (n k c : ℕ) → Contains (numbers_from n k) c → (i : ℕ) × (i < k) × (c ≡ n + i)
container n k c h = let small : h.0 < k = subst (λ z. h.0 < z) (row_length n k) h.1 in (h.0, small, sym h.2 ∙ indexed n k h.0 c small)

in_front : (k d i : ℕ) (rest : List ℕ) → i < k → slice_get (replicate k d ++ rest) i ≡ Some d
in_front zero d i rest small = absurd (omega arith)
in_front (suc k) d zero rest small = refl
in_front (suc k) d (suc i) rest small = in_front k d i rest (omega arith)

behind_front : (k d i : ℕ) (rest : List ℕ) → slice_get (replicate k d ++ rest) (k + i) ≡ slice_get rest i
behind_front zero d i rest = let e : 0 + i ≡ i = omega arith in ap (slice_get rest) e
behind_front (suc k) d i rest = let e : suc k + i ≡ suc (k + i) = omega arith in ap (slice_get (d ∷ (replicate k d ++ rest))) e ∙ behind_front k d i rest

front_or_behind : (k i : ℕ) → (i < k) ⊎ ((j : ℕ) × (i ≡ k + j))
front_or_behind zero i = inr (i, omega arith)
front_or_behind (suc k) zero = inl (omega arith)
front_or_behind (suc k) (suc i) = elim (front_or_behind k i) [ inl h ↦ inl (omega arith) | inr h ↦ inr (h.0, let e : i ≡ k + h.0 = h.1 in omega arith) ]

owned : (ks : List ℕ) (n d j : ℕ) (cs : List ℕ) (c : ℕ) → slice_get (rows_from n ks) j ≡ Some cs → Contains cs c → (i : ℕ) × (c ≡ n + i) × (slice_get (owners_from d ks) i ≡ Some (d + j))
owned [] n d j cs c e h = absurd (cc e)
owned (k ∷ ks) n d zero cs c e h =
    let same : numbers_from n k ≡ cs = cc e in
    let x = container n k c (subst (λ z. Contains z c) (sym same) h) in
    let plain : d ≡ d + 0 = omega arith in (x.0, x.2, in_front k d x.0 (owners_from (suc d) ks) x.1 ∙ ap Some plain)
owned (k ∷ ks) n d (suc j) cs c e h =
    let x = owned ks (n + k) (suc d) j cs c e h in
    let is : c ≡ n + k + x.0 = x.1 in
    let moved : suc d + j ≡ d + suc j = omega arith in
    let place : c ≡ n + (k + x.0) = omega arith in (k + x.0, place, behind_front k d x.0 (owners_from (suc d) ks) ∙ x.2 ∙ ap Some moved)

abbrev Owner : List ℕ → ℕ → ℕ → ℕ → ℕ → Type 0
Owner ks n d i e = (j : ℕ) × (e ≡ d + j) × ((cs : List ℕ) × (slice_get (rows_from n ks) j ≡ Some cs) × Contains cs (n + i))

owner : (ks : List ℕ) (n d i e : ℕ) → slice_get (owners_from d ks) i ≡ Some e → Owner ks n d i e
owner [] n d i e h = absurd (cc h)
owner (k ∷ ks) n d i e h = by_place (front_or_behind k i) (λ j g. owner ks (n + k) (suc d) j e g)
  where
    by_place : (i < k) ⊎ ((j : ℕ) × (i ≡ k + j)) → ((j : ℕ) → slice_get (owners_from (suc d) ks) j ≡ Some e → Owner ks (n + k) (suc d) j e) → Owner (k ∷ ks) n d i e
    by_place (inl small) rest =
        let f : Some d ≡ Some e = sym (in_front k d i (owners_from (suc d) ks) small) ∙ h in
        let same : d ≡ e = cc f in
        let plain : e ≡ d + 0 = omega arith in (0, plain, (numbers_from n k, refl, contained n k i small))
    by_place (inr x) rest =
        let y = rest x.0 (sym (behind_front k d x.0 (owners_from (suc d) ks)) ∙ ap (slice_get (replicate k d ++ owners_from (suc d) ks)) (sym x.1) ∙ h) in
        let is : e ≡ suc d + y.0 = y.1 in
        let at : i ≡ k + x.0 = x.1 in
        let moved : e ≡ d + suc y.0 = omega arith in
        let place : n + k + x.0 ≡ n + i = omega arith in (suc y.0, moved, (y.2.0, y.2.1, subst (Contains y.2.0) place y.2.2))

pub rows_have_owners : (types : Types) (o : Numbering) (ks : List ℕ) → types.datatypes ≡ rows_from 0 ks → o.owners ≡ owners_from 0 ks → AreOwners types o
rows_have_owners types o ks rows owners d c = (there, back)
  where
    there : IsConstructorOf types d c → slice_get o.owners c ≡ Some d
    there h =
        let x = owned ks 0 0 d h.0 c (ap (λ z. slice_get z d) (sym rows) ∙ h.1) h.2 in
        let is : c ≡ 0 + x.0 = x.1 in
        let place : c ≡ x.0 = omega arith in
        let plain : 0 + d ≡ d = omega arith in ap (λ z. slice_get z c) owners ∙ ap (slice_get (owners_from 0 ks)) place ∙ x.2 ∙ ap Some plain

    back : slice_get o.owners c ≡ Some d → IsConstructorOf types d c
    back h =
        let x = owner ks 0 0 c d (ap (λ z. slice_get z c) (sym owners) ∙ h) in
        let is : d ≡ 0 + x.0 = x.1 in
        let place : x.0 ≡ d = omega arith in
        let plain : 0 + c ≡ c = omega arith in (x.2.0, ap (λ z. slice_get z d) rows ∙ ap (slice_get (rows_from 0 ks)) (sym place) ∙ x.2.1, subst (Contains x.2.0) plain x.2.2)
