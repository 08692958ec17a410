-- Parts of lists of words.
use Rattle.std.proofs.Common.{◌≡◌, ◌≤◌, ◌<◌, ◌+◌, ◌-◌, ℕ, zero, suc, true, false, List, [], ◌∷◌, ◌++◌, length, get_or, take, drop, map, reverse, refl, sym, ◌∙◌, ap, nat_eq, arith}
use Rattle.std.proofs.lemmas.List.{drop-map, drop_all, get_or-map, length-map, map-append, reverse-append, take-map, take_rest}
use Rattle.std.proofs.lemmas.List.Sums.{common_prefix_len-drop_no, common_prefix_len-drop_yes}
use Rattle.std.specs.Cmp.Lexicographic.{pointwise}
use Rattle.std.specs.Borrow.{Bor}
use Rattle.theory_explanation.specs.Changing.{same_words}
use Rattle.counterexample.specs.Texts.{texts_of}

none_behind : (ws : List (List ℕ)) → same_words ws [] ≡ 0
none_behind [] = refl
none_behind (w ∷ ws) = refl

module _ (old new : List (Bor (List ℕ))) (i : ℕ) where
  -- how many more are alike from this place on
  abbrev pub same_from : ℕ → ℕ
  same_from k = same_words (drop k (texts_of old)) (drop k (texts_of new))

  pub none_left : (length old ≤ i) → same_from i ≡ 0
  none_left past = let long = length-map old (λ w. w.now) in rw (drop_all i (texts_of old) (omega (arith, long, past))) refl

  pub none_new : (length new ≤ i) → same_from i ≡ 0
  none_new past = let long = length-map new (λ w. w.now) in rw (drop_all i (texts_of new) (omega (arith, long, past))) (none_behind (drop i (texts_of old)))

  module _ (a b : Bor (List ℕ)) (in_old : i < length old) (in_new : i < length new) where
    read_old : get_or (texts_of old) i a.now ≡ (get_or old i a).now
    read_old = get_or-map (λ w. w.now) old i a a.now in_old

    read_new : get_or (texts_of new) i b.now ≡ (get_or new i b).now
    read_new = get_or-map (λ w. w.now) new i b b.now in_new

    inside_old : i < length (texts_of old)
    inside_old = let long = length-map old (λ w. w.now) in omega (arith, long, in_old)

    inside_new : i < length (texts_of new)
    inside_new = let long = length-map new (λ w. w.now) in omega (arith, long, in_new)

    pub one_same : pointwise nat_eq (get_or old i a).now (get_or new i b).now ≡ true → same_from i ≡ 1 + same_from (i + 1)
    one_same same = common_prefix_len-drop_yes (pointwise nat_eq) (texts_of old) (texts_of new) i a.now b.now inside_old inside_new (rw (read_old, read_new) same)

    pub one_other : pointwise nat_eq (get_or old i a).now (get_or new i b).now ≡ false → same_from i ≡ 0
    one_other other = common_prefix_len-drop_no (pointwise nat_eq) (texts_of old) (texts_of new) i a.now b.now inside_old inside_new (rw (read_old, read_new) other)

-- ---- parts

pub part_same : (ws : List (Bor (List ℕ))) (front back : ℕ) → front + back ≤ length ws → texts_of (take (length ws - back - front) (drop front ws)) ≡ take (length (texts_of ws) - (front + back)) (drop front (texts_of ws))
part_same ws front back fits =
    let long = length-map ws (λ w. w.now) in
    let n : length ws - back - front ≡ length (texts_of ws) - (front + back) = omega (arith, long, fits) in
    ap (λ k. texts_of (take k (drop front ws))) n ∙ sym (take-map (λ w. w.now) (length (texts_of ws) - (front + back)) (drop front ws))
    ∙ ap (take (length (texts_of ws) - (front + back))) (sym (drop-map (λ w. w.now) front ws))

reverse_texts : (ws : List (Bor (List ℕ))) → texts_of (reverse ws) ≡ reverse (texts_of ws)
reverse_texts [] = refl
reverse_texts (w ∷ ws) =
    ap texts_of (reverse-append (w ∷ []) ws) ∙ map-append (λ v. v.now) (reverse ws) (w ∷ []) ∙ ap (λ vs. vs ++ w.now ∷ []) (reverse_texts ws) ∙ sym (reverse-append (w.now ∷ []) (texts_of ws))

pub behind_same : (ws : List (Bor (List ℕ))) (front : ℕ) → texts_of (reverse (take (length ws - front) (drop front ws))) ≡ reverse (drop front (texts_of ws))
behind_same ws front = ap (λ vs. texts_of (reverse vs)) (take_rest ws front) ∙ reverse_texts (drop front ws) ∙ ap reverse (sym (drop-map (λ w. w.now) front ws))
