-- Pairs are known by their keys.
use Rattle.std.proofs.Common.{◌≡◌, ◌↔◌, ◌<◌, ℕ, List, [], Some, length, slice_get, get_or, sym, ap, subst, ◌∙◌, Contains}
use Rattle.std.proofs.lemmas.Option.{slice_get-get_or, slice_get_within}
use Rattle.theory_semantics.proofs.Rising.{Contains-from_stands, stands_from_Contains}
use Rattle.theory_search.specs.Growth.{AreDistinct}
use Rattle.theory_search.specs.Search as search
use Rattle.theory_search.specs.Search.{AreDistinctPairs, IsStored}
use Rattle.theory_rows.specs.Tables.{AreTables, IsRowIn, Tables, process_of}
use Rattle.theory_rows.specs.Keys.{AreKeysOf, Key}
use Rattle.theory_rows.proofs.Rows.{one_row}

key_of : (k j : Key) → k.0 ≡ j.0 → k.1 ≡ j.1 → k ≡ j
key_of k j e f = λ i. (e i, f i)

pub same_key : (t : Tables) (k j : Key) → AreTables t → IsRowIn t k.1 → IsRowIn t j.1 → (k ≡ j) ↔ ((k.0 ≡ j.0) × (process_of t k.1 ≡ process_of t j.1))
same_key t k j are first second = (
  λ e. (ap (λ (z : Key). z.0) e, ap (λ (z : Key). process_of t z.1) e),
  λ h. key_of k j h.0 (one_row t k.1 j.1 are first second h.1),
)

-- the row beside a key, and the key beside a row
beside : {X Y : Type 0} (xs : List X) (ys : List Y) → length xs ≡ length ys → (i : ℕ) (x : X) (d : Y) → slice_get xs i ≡ Some x → slice_get ys i ≡ Some (get_or ys i d)
beside xs ys even i x d at = slice_get-get_or ys i d (subst (λ (n : ℕ). i < n) even (slice_get_within xs i x at))

module _ (t : Tables) (keys : List Key) (rows : List search.Row) (are : AreTables t) (keep : AreKeysOf t keys rows) where
  -- two keys of one pair are the same
  same_pair : (i j : ℕ) (k h : Key) (r q : search.Row) → slice_get keys i ≡ Some k → slice_get keys j ≡ Some h → slice_get rows i ≡ Some r → slice_get rows j ≡ Some q → r.node ≡ q.node → r.term ≡ q.term → k ≡ h
  same_pair i j k h r q ki kj ri rj node term =
      let a = keep.each i k r ki ri in
      let b = keep.each j h q kj rj in
      (same_key t k h are a.1.within b.1.within).1 (a.0 ∙ node ∙ sym b.0, a.1.is ∙ term ∙ sym b.1.is)

  none : Key
  none = (0, record { shape = 0; parts = [] })

  row_of : Key → search.Row
  row_of k = record { node = 0; term = process_of t k.1; origin = search.Initial; level = 0; rank = 0; mark = search.Waiting }

  to_pairs : AreDistinct keys → AreDistinctPairs rows
  to_pairs distinct i j r q at there node term =
      let ki = beside rows keys (sym keep.even) i r none at in
      let kj = beside rows keys (sym keep.even) j q none there in
      let k = get_or keys i none in
      let h = get_or keys j none in
      distinct i j h (ki ∙ ap Some (same_pair i j k h r q ki kj at there node term)) kj

  from_pairs : AreDistinctPairs rows → AreDistinct keys
  from_pairs distinct i j k at there =
      let ri = beside keys rows keep.even i k (row_of k) at in
      let rj = beside keys rows keep.even j k (row_of k) there in
      let r = get_or rows i (row_of k) in
      let q = get_or rows j (row_of k) in
      let a = keep.each i k r at ri in
      let b = keep.each j k q there rj in
      distinct i j r q ri rj (sym a.0 ∙ b.0) (sym a.1.is ∙ b.1.is)

  pub distinct_pairs : AreDistinct keys ↔ AreDistinctPairs rows
  distinct_pairs = (to_pairs, from_pairs)

  pub stored_keys : (k : Key) → IsRowIn t k.1 → Contains keys k ↔ IsStored rows k.0 (process_of t k.1)
  stored_keys k is = (
    λ has.
        let at = stands_from_Contains keys k has in
        let ri = beside keys rows keep.even at.0 k (row_of k) at.1 in
        let r = get_or rows at.0 (row_of k) in
        let a = keep.each at.0 k r at.1 ri in
        (at.0, r, ri, sym a.0, sym a.1.is),
    λ (i, q, at, node, term).
        let ki = beside rows keys (sym keep.even) i q none at in
        let h = get_or keys i none in
        let a = keep.each i h q ki at in
        let e : h ≡ k = (same_key t h k are a.1.within is).1 (a.0 ∙ node, a.1.is ∙ term) in
        Contains-from_stands keys k (i, ki ∙ ap Some e),
  )
