-- Layers over a chain.
use Rattle.std.proofs.Common.{◌≡◌, ◌≢◌, ℕ, ◌+◌, ◌-◌, ◌<◌, ◌≤◌, nat_eq, Bool, true, false, cond, List, [], ◌∷◌, ◌++◌, length, take, drop, get_or, refl, sym, ◌∙◌, ap, ap₂}
use Rattle.std.proofs.lemmas.List.{drop_more, take_rest}
use Rattle.std.proofs.Math.ListN.{drop_of_length-le}
use Rattle.std.proofs.lemmas.Bool.{cond-true, cond-false, eqb-true, eq-eqb}
use Rattle.theory_checking.specs.Inference.Chain as pure
use Rattle.theory_checking.specs.Inference.Chain.{with_ends, in_place_of}
use Rattle.csp_inference.specs.declared.chain.KindNumber.{KindNumber}
use Rattle.csp_inference.specs.declared.chain.End.{End}
use Rattle.csp_inference.specs.declared.chain.End.TheVariants as ending
use Rattle.csp_inference.specs.declared.chain.Layer.{Layer}
use Rattle.csp_inference.specs.declared.chain.Layer.TheVariants as layer
use Rattle.csp_inference.specs.Chain.{end_of, over, over_all}
use Rattle.csp_inference.specs.State.{are_like, taken_off}

pub over_append : (ls ms : List Layer) (c : pure.Chain) → over_all (ls ++ ms) c ≡ over_all ls (over_all ms c)
over_append [] ms c = refl
over_append (l ∷ ls) ms c = ap (over l) (over_append ls ms c)

-- ends are put in below the layers
pub ends_below : (f : ℕ → pure.Chain) (ls : List Layer) (c : pure.Chain) → with_ends f (over_all ls c) ≡ over_all ls (with_ends f c)
ends_below f [] c = refl
ends_below f (layer.Sequence ∷ ls) c = ap pure.SequenceOver (ends_below f ls c)
ends_below f (layer.Set ∷ ls) c = ap pure.SetOver (ends_below f ls c)

-- at a chain that ends in the number another one takes its place
pub put_at_end : (ls : List Layer) (e : End) (n : KindNumber) (c : pure.Chain) → e ≡ ending.Open n → with_ends (in_place_of n.0 c) (over_all ls (end_of e)) ≡ over_all ls c
put_at_end ls e n c is =
    ends_below (in_place_of n.0 c) ls (end_of e) ∙ ap (λ x. over_all ls (with_ends (in_place_of n.0 c) (end_of x))) is
    ∙ ap (over_all ls) (cond-true (nat_eq n.0 n.0) c (pure.OpenEnd n.0) (eq-eqb n.0 n.0 refl))

-- and one with another end stays
pub put_elsewhere : (ls : List Layer) (e : End) (n : KindNumber) (c : pure.Chain) → e ≢ ending.Open n → with_ends (in_place_of n.0 c) (over_all ls (end_of e)) ≡ over_all ls (end_of e)
put_elsewhere ls e n c differs = ends_below (in_place_of n.0 c) ls (end_of e) ∙ ap (over_all ls) (by_end e differs)
  where
    by_test : (m : KindNumber) (t : Bool) → nat_eq n.0 m.0 ≡ t → ending.Open m ≢ ending.Open n → cond t c (pure.OpenEnd m.0) ≡ pure.OpenEnd m.0
    by_test m false is ne = refl
    by_test m true is ne = absurd (ne (ap (λ k. ending.Open (record { 0 = k })) (sym (eqb-true n.0 m.0 is))))

    by_end : (x : End) → x ≢ ending.Open n → with_ends (in_place_of n.0 c) (end_of x) ≡ end_of x
    by_end ending.Int ne = refl
    by_end ending.Bool ne = refl
    by_end (ending.Datatype d) ne = refl
    by_end (ending.Open m) ne = by_test m (nat_eq n.0 m.0) refl ne

-- nothing is taken off where one row is at its end, or where the next layers differ
pub taken_left_over : (ls ms : List Layer) (i : ℕ) → length ls ≤ i → taken_off (drop i ls) (drop i ms) ≡ (drop i ls, drop i ms)
taken_left_over ls ms i over = rw (drop_of_length-le ls over) refl

pub taken_right_over : (ls ms : List Layer) (i : ℕ) → length ms ≤ i → taken_off (drop i ls) (drop i ms) ≡ (drop i ls, drop i ms)
taken_right_over ls ms i over = rw (drop_of_length-le ms over) (by_row (drop i ls))
  where
    by_row : (xs : List Layer) → taken_off xs [] ≡ (xs, [])
    by_row [] = refl
    by_row (x ∷ xs) = refl

pub taken_unlike : (ls ms : List Layer) (i : ℕ) (d : Layer) → i < length ls → i < length ms → get_or ls i d ≢ get_or ms i d → taken_off (drop i ls) (drop i ms) ≡ (drop i ls, drop i ms)
taken_unlike ls ms i d in_left in_right differ =
    let first = drop_more ls i d in_left in
    let second = drop_more ms i d in_right in
    ap₂ taken_off first second
    ∙ cond-false (are_like (get_or ls i d) (get_or ms i d)) (taken_off (drop (i + 1) ls) (drop (i + 1) ms))
    (get_or ls i d ∷ drop (i + 1) ls, get_or ms i d ∷ drop (i + 1) ms) (unlikeness (get_or ls i d) (get_or ms i d) differ)
    ∙ ap₂ (λ x y. (x, y)) (sym first) (sym second)
  where
    unlikeness : (l m : Layer) → l ≢ m → are_like l m ≡ false
    unlikeness layer.Sequence layer.Sequence e = absurd (e refl)
    unlikeness layer.Set layer.Set e = absurd (e refl)
    unlikeness layer.Sequence layer.Set e = refl
    unlikeness layer.Set layer.Sequence e = refl

-- what is left, as it is read
pub taken : (ls ms : List Layer) (i : ℕ) →
    taken_off (drop i ls) (drop i ms) ≡ taken_off ls ms → taken_off (drop i ls) (drop i ms) ≡ (drop i ls, drop i ms) →
    (take (length ls - i) (drop i ls), take (length ms - i) (drop i ms)) ≡ taken_off ls ms
taken ls ms i same over = ap₂ (λ x y. (x, y)) (take_rest ls i) (take_rest ms i) ∙ sym over ∙ same
