-- Items that are read one after the other, as a loop does.
use Rattle.std.proofs.Common.{◌≡◌, ℕ, suc, ◌-◌, ◌+◌, ◌≤◌, ◌<◌, List, [], ◌∷◌, ◌++◌, Some, None, refl, sym, ap, ◌∙◌, append_assoc, arith}
use Rattle.std.proofs.lemmas.List.{append-nil}
use Rattle.theory_spelling.specs.Reading.{Found, ◌>>=◌, found_as, items_at}
use Rattle.csp_spell.specs.declared.fault.UnpackFault.{UnpackFault}
use Rattle.csp_spell.specs.declared.fault.UnpackFault.TheVariants as fault
use Rattle.csp_spell.specs.Gives.{Fails}

-- what was read before, and what is still read
abbrev pub with_front : {X : Type 0} → List X → Found (List X) → Found (List X)
with_front front found = found_as (λ xs. front ++ xs) found

abbrev next_item : {X : Type 0} → X → Found (List X) → Found (List X)
next_item {X} x found = found_as (λ (p : X × List X). p.0 ∷ p.1) (found >>= λ y. Some ((x, y.0), y.1))

regroup : {X : Type 0} (front : List X) (x : X) (found : Found (List X)) → with_front front (next_item x found) ≡ with_front (front ++ x ∷ []) found
regroup {X} front x (Some y) = ap (λ (xs : List X). Some (xs, y.1)) (sym (append_assoc front (x ∷ []) y.0))
regroup front x None = refl

module _ {X : Type 0} (read : List ℕ → Found X) (total : Found (List X)) where
  pub goes_on : (front : List X) (count i : ℕ) (bytes : List ℕ) (x : X) (after : List ℕ) → i < count → read bytes ≡ Some (x, after)
      → with_front front (items_at read (count - i) bytes) ≡ total → with_front (front ++ x ∷ []) (items_at read (count - (i + 1)) after) ≡ total
  unfolding items_at
  goes_on front count i bytes x after lt h so_far =
      let k : count - i ≡ suc (count - (i + 1)) = omega arith in
      let one : with_front front (items_at read (count - i) bytes) ≡ with_front (front ++ x ∷ []) (items_at read (count - (i + 1)) after) = rw (k, h) (regroup front x (items_at read (count - (i + 1)) after)) in
      sym one ∙ so_far

  pub ends : (e : UnpackFault) (front : List X) (count i : ℕ) (bytes : List ℕ) → i < count → Fails e (read bytes)
      → with_front front (items_at read (count - i) bytes) ≡ total → Fails e total
  unfolding items_at
  ends fault.Memory front count i bytes lt h so_far = tt
  ends fault.NotATerm front count i bytes lt h so_far =
      let k : count - i ≡ suc (count - (i + 1)) = omega arith in
      let one : with_front front (items_at read (count - i) bytes) ≡ None = rw (k, h) refl in
      sym so_far ∙ one

  pub is_done : (front : List X) (count i : ℕ) (bytes : List ℕ) → count ≤ i → with_front front (items_at read (count - i) bytes) ≡ total → total ≡ Some (front, bytes)
  unfolding items_at
  is_done front count i bytes le so_far =
      let k : count - i ≡ 0 = omega arith in
      let one : with_front front (items_at read (count - i) bytes) ≡ Some (front, bytes) = rw k (ap (λ (xs : List X). Some (xs, bytes)) (append-nil front)) in
      sym so_far ∙ one
