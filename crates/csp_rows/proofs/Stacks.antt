-- Lists that stand on one another.
use Rattle.std.proofs.Common.{◌≡◌, ◌++◌, ◌<◌, ◌≤◌, ℕ, ◌+◌, ◌-◌, List, length, get_or, take, drop, sym, ap, ◌∙◌, append_assoc, arith}
use Rattle.std.proofs.lemmas.List.{drop-append-le, drop_at, get_or-drop, get_or-take, get_or_append_left, length-drop, length-take-le, take-append-le, take_at, take_rest, length-append}
use Rattle.std.proofs.lemmas.List.Edits.{take-paste}
use Rattle.std.proofs.Math.Seq.{paste}
use Rattle.csp_rows.specs.declared.stack.Places.{Places}
use Rattle.csp_rows.specs.Stacks.{ArePlacesIn, between}

module _ {X : Type 0} where
  -- what is behind what is let go takes its place
  pub behind_gone : (xs : List X) (from to : ℕ) → from ≤ to → to ≤ length xs → take (length xs - (to - from)) (paste xs from (drop to xs) (length xs - to)) ≡ take from xs ++ drop to xs
  behind_gone xs from to on within =
      let rest = length xs - to in
      let kept : length xs - (to - from) ≡ from + rest = omega (arith, on, within) in
      let long = length-drop to xs in
      ap (λ (k : ℕ). take k (paste xs from (drop to xs) rest)) kept ∙ take-paste xs from (drop to xs) rest (omega (arith, on, within)) (omega (arith, long)) ∙ ap (λ (ys : List X). take from xs ++ ys) (take_rest xs to)

  -- what stands on a list, and more on that
  pub further : (s0 s1 s2 m1 m2 : List X) → s1 ≡ s0 ++ m1 → s2 ≡ s1 ++ m2 → s2 ≡ s0 ++ (m1 ++ m2)
  further s0 s1 s2 m1 m2 first second = second ∙ ap (λ (xs : List X). xs ++ m2) first ∙ append_assoc s0 m1 m2

  -- what stands between places stays while more comes on top
  pub between_below : (p : Places) (xs more : List X) → ArePlacesIn (length xs) p → between p (xs ++ more) ≡ between p xs
  between_below p xs more (on, within) =
      ap (take (p.to - p.from)) (drop-append-le p.from xs more (omega (arith, on, within))) ∙ take-append-le (p.to - p.from) (drop p.from xs) more (omega (arith, length-drop p.from xs, on, within))

  pub long_between : (p : Places) (xs : List X) → ArePlacesIn (length xs) p → length (between p xs) ≡ p.to - p.from
  long_between p xs (on, within) = length-take-le (p.to - p.from) (drop p.from xs) (omega (arith, length-drop p.from xs, on, within))

  -- what is read at a place of them
  pub read_between : (p : Places) (xs more now : List X) (k : ℕ) (d x : X) → p.from ≤ k → k < p.to → p.to ≤ length xs → now ≡ xs ++ more → x ≡ get_or now k d → x ≡ get_or (between p xs) (k - p.from) d
  read_between p xs more now k d x on before within is read =
      let i = k - p.from in
      let at : k ≡ p.from + i = omega (arith, on) in
      read ∙ ap (λ (ys : List X). get_or ys k d) is ∙ get_or_append_left xs more d k (omega (arith, before, within)) ∙ ap (λ (j : ℕ). get_or xs j d) at ∙ sym (get_or-drop p.from xs i d)
      ∙ sym (get_or-take (p.to - p.from) (drop p.from xs) i d (omega (arith, on, before)))

  -- what stands between places that are told by lengths
  pub between_at : (p : Places) (below ys more all : List X) → all ≡ below ++ (ys ++ more) → p.from ≡ length below → p.to ≡ length (below ++ ys) → between p all ≡ ys
  between_at p below ys more all is from to =
      let long = length-append below ys in
      let there : drop p.from all ≡ ys ++ more = ap (drop p.from) is ∙ drop_at below (ys ++ more) p.from (sym from) in
      ap (take (p.to - p.from)) there ∙ take_at ys more (p.to - p.from) (omega (arith, from, to, long))
