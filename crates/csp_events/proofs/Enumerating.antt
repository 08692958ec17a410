-- The results of a list one after the other, and a test of each item of a list.
use Rattle.std.proofs.Common.{◌≡◌, ℕ, ◌+◌, ◌<◌, length, take, drop, get_or, Bool, true, List, [], ◌∷◌, ◌++◌, map, Contains, Result, Ok, Err, refl, sym, ◌∙◌, ap, zero, suc, ⊎_elim, arith}
use Rattle.std.proofs.lemmas.List.{drop_more, map-append, take-append-drop, take_more}
use Rattle.std.proofs.lemmas.Bool.{or_cases, or_left, or_right}
use Rattle.std.specs.List.{list_any}
use Rattle.theory_semantics.specs.Meaning.Evaluation.{Cause, ◌and_then◌}
use Rattle.theory_semantics.specs.Meaning.Events.{each}

module _ {A B : Type 0} (f : A → Result B Cause) where
  each_both : (xs zs : List A) → each f (xs ++ zs) ≡ (each f xs and_then λ ys. each f zs and_then λ ws. Ok (ys ++ ws))
  each_both [] zs = alone (each f zs)
    where
      alone : (r : Result (List B) Cause) → r ≡ (r and_then λ ws. Ok ws)
      alone (Ok ws) = refl
      alone (Err c) = refl
  each_both (x ∷ xs) zs = by_first (f x) (each_both xs zs)
    where
      by_last : (y : B) (ys : List B) (r : Result (List B) Cause) → ((r and_then λ ws. Ok (ys ++ ws)) and_then λ us. Ok (y ∷ us)) ≡ (r and_then λ ws. Ok ((y ∷ ys) ++ ws))
      by_last y ys (Ok ws) = refl
      by_last y ys (Err c) = refl

      by_rest : (y : B) (r : Result (List B) Cause) → ((r and_then λ ys. each f zs and_then λ ws. Ok (ys ++ ws)) and_then λ us. Ok (y ∷ us)) ≡ ((r and_then λ ys. Ok (y ∷ ys)) and_then λ ys. each f zs and_then λ ws. Ok (ys ++ ws))
      by_rest y (Ok ys) = by_last y ys (each f zs)
      by_rest y (Err c) = refl

      by_first : (r : Result B Cause) → each f (xs ++ zs) ≡ (each f xs and_then λ ys. each f zs and_then λ ws. Ok (ys ++ ws)) →
          (r and_then λ y. each f (xs ++ zs) and_then λ us. Ok (y ∷ us)) ≡ ((r and_then λ y. each f xs and_then λ ys. Ok (y ∷ ys)) and_then λ ys. each f zs and_then λ ws. Ok (ys ++ ws))
      by_first (Ok y) rest = ap (λ r. r and_then λ us. Ok (y ∷ us)) rest ∙ by_rest y (each f xs)
      by_first (Err c) rest = refl

  -- one more
  pub each_more : (xs : List A) (x : A) (ys : List B) (y : B) → each f xs ≡ Ok ys → f x ≡ Ok y → each f (xs ++ x ∷ []) ≡ Ok (ys ++ y ∷ [])
  each_more xs x ys y so_far one =
      each_both xs (x ∷ []) ∙ ap (λ r. r and_then λ ys. each f (x ∷ []) and_then λ ws. Ok (ys ++ ws)) so_far ∙ ap (λ r. (r and_then λ y. Ok (y ∷ [])) and_then λ ws. Ok (ys ++ ws)) one

  -- or the first cause
  pub each_stops : (xs zs : List A) (x : A) (ys : List B) (c : Cause) → each f xs ≡ Ok ys → f x ≡ Err c → each f (xs ++ x ∷ zs) ≡ Err c
  each_stops xs zs x ys c so_far none =
      each_both xs (x ∷ zs) ∙ ap (λ r. r and_then λ ys. each f (x ∷ zs) and_then λ ws. Ok (ys ++ ws)) so_far
      ∙ ap (λ r. (r and_then λ y. each f zs and_then λ vs. Ok (y ∷ vs)) and_then λ ws. Ok (ys ++ ws)) none

-- ---- along a list, by what is meant

module _ {X Y A B : Type 0} (f : A → Result B Cause) (meant : X → A) (means : Y → B) (items : List X) (i : ℕ) (item : X) (all : List Y) (so_far : each f (map meant (take i items)) ≡ Ok (map means all)) (within : i < length items) (read : item ≡ get_or items i item) where
  pub one_further : (more : List Y) (y : Y) → f (meant item) ≡ Ok (means y) → more ≡ all ++ y ∷ [] → each f (map meant (take (i + 1) items)) ≡ Ok (map means more)
  one_further more y one pushed =
      let longer = take_more items i item within ∙ ap (λ z. take i items ++ z ∷ []) (sym read) in
      ap (λ xs. each f (map meant xs)) longer ∙ ap (each f) (map-append meant (take i items) (item ∷ [])) ∙ each_more f (map meant (take i items)) (meant item) (map means all) (means y) so_far one
      ∙ ap Ok (sym (map-append means all (y ∷ [])) ∙ ap (map means) (sym pushed))

  pub stopped_at : (c : Cause) → f (meant item) ≡ Err c → each f (map meant items) ≡ Err c
  stopped_at c none =
      let rest = drop_more items i item within ∙ ap (λ z. z ∷ drop (i + 1) items) (sym read) in
      let whole = sym (take-append-drop i items) ∙ ap (λ zs. take i items ++ zs) rest in
      ap (λ xs. each f (map meant xs)) whole ∙ ap (each f) (map-append meant (take i items) (item ∷ drop (i + 1) items)) ∙ each_stops f (map meant (take i items)) (map meant (drop (i + 1) items)) (meant item) (map means all) c so_far none

-- ---- a test of each

module _ {K : Type 0} (test : K → Bool) where
  -- an item that passes
  pub any_from : (ks : List K) (k : K) → Contains ks k → test k ≡ true → list_any test ks ≡ true
  any_from [] k (i, h, e) is = absurd (omega arith)
  any_from (j ∷ ks) k (zero, h, e) is = or_left (test j) (list_any test ks) (ap test e ∙ is)
  any_from (j ∷ ks) k (suc i, h, e) is = or_right (test j) (list_any test ks) (any_from ks k (i, omega arith, e) is)

  -- one of the items that pass
  pub any_of : (ks : List K) → list_any test ks ≡ true → (k : K) × Contains ks k × (test k ≡ true)
  any_of [] h = absurd (cc h)
  any_of (j ∷ ks) h = ⊎_elim (λ e. (j, (0, omega arith, refl), e)) (λ e. let r = any_of ks e in let i = r.1 in (r.0, (suc i.0, omega (arith, i.1), i.2), r.2)) (or_cases (test j) (list_any test ks) h)
