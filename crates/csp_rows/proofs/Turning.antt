-- One more piece, and one more number, behind others.
use Rattle.std.proofs.Common.{◌≡◌, ℕ, ◌+◌, ◌<◌, ◌≤◌, ◌⊎◌, inl, inr, zero, suc, List, [], ◌∷◌, ◌++◌, length, take, slice_get, Some, refl, sym, ap, ◌∙◌, arith, append_assoc}
use Rattle.std.proofs.lemmas.List.{append-nil, length-take}
use Rattle.theory_shapes.specs.Pieces.{in_turn, runs_with}
use Rattle.theory_shapes.proofs.InPlace.{same_turn}
use Rattle.csp_rows.specs.declared.numbers.PartId.{PartId}
use Rattle.csp_rows.specs.declared.part.Part.{Part}
use Rattle.csp_rows.specs.Rows.{spelling_at}
use Rattle.csp_rows.specs.Split.{number_run, spelling_of_number}

-- ---- lists

pub at_end : {X : Type 0} (xs : List X) (x : X) → slice_get (xs ++ x ∷ []) (length xs) ≡ Some x
at_end [] x = refl
at_end (y ∷ xs) x = at_end xs x

pub before_end : {X : Type 0} (xs ys : List X) (i : ℕ) → i < length xs → slice_get (xs ++ ys) i ≡ slice_get xs i
before_end [] ys i within = absurd (omega (arith, within))
before_end (x ∷ xs) ys zero within = refl
before_end (x ∷ xs) ys (suc i) within = before_end xs ys i (omega (arith, within))

pub taken_before : {X : Type 0} (xs ys : List X) (i : ℕ) → i ≤ length xs → take i (xs ++ ys) ≡ take i xs
taken_before xs ys zero within = refl
taken_before [] ys (suc i) within = absurd (omega (arith, within))
taken_before (x ∷ xs) ys (suc i) within = ap (λ zs. x ∷ zs) (taken_before xs ys i (omega (arith, within)))

pub before_or_last : (i n : ℕ) → i < suc n → (i < n) ⊎ (i ≡ n)
before_or_last zero zero within = inr refl
before_or_last zero (suc n) within = inl (omega arith)
before_or_last (suc i) zero within = absurd (omega (arith, within))
before_or_last (suc i) (suc n) within = elim (before_or_last i n (omega (arith, within))) [ inl lt ↦ inl (omega (arith, lt)) | inr e ↦ inr (ap suc e) ]

-- ---- pieces and runs

runs_more : (n : ℕ) (more : List (List ℕ)) (piece : List ℕ) (run : ℕ → List ℕ) → runs_with n (more ++ piece ∷ []) run ≡ runs_with n more run ++ (run (n + length more) ++ piece)
runs_more n [] piece run = ap (λ (k : ℕ). run k ++ (piece ++ [])) (let e : n ≡ n + 0 = omega arith in e) ∙ ap (λ (bytes : List ℕ). run (n + 0) ++ bytes) (append-nil piece)
runs_more n (p ∷ more) piece run =
    let front = runs_with (suc n) more run in
    let back : ℕ → List ℕ = λ k. run k ++ piece in
    ap (λ (bytes : List ℕ). run n ++ (p ++ bytes)) (runs_more (suc n) more piece run ∙ ap (λ (k : ℕ). front ++ back k) (let e : suc n + length more ≡ n + suc (length more) = omega arith in e))
    ∙ ap (λ (bytes : List ℕ). run n ++ bytes) (sym (append_assoc p front (back (n + suc (length more)))))
    ∙ sym (append_assoc (run n) (p ++ front) (back (n + suc (length more))))

turn_more : (first : List ℕ) (more : List (List ℕ)) (piece : List ℕ) (run : ℕ → List ℕ) → in_turn 0 (first ∷ (more ++ piece ∷ [])) run ≡ in_turn 0 (first ∷ more) run ++ (run (length more) ++ piece)
turn_more first more piece run =
    ap (λ (bytes : List ℕ). first ++ bytes) (runs_more 0 more piece run ∙ ap (λ (k : ℕ). runs_with 0 more run ++ (run k ++ piece)) (let e : 0 + length more ≡ length more = omega arith in e))
    ∙ sym (append_assoc first (runs_with 0 more run) (run (length more) ++ piece))

module _ {A : Type 0} (parts : List (Part A)) where
  pub run_before : (numbers more : List PartId) (i : ℕ) → i < length numbers → number_run parts (numbers ++ more) i ≡ number_run parts numbers i
  run_before numbers more i within = ap (spelling_of_number parts) (before_end numbers more i within)

  pub run_last : (numbers : List PartId) (n : PartId) → number_run parts (numbers ++ n ∷ []) (length numbers) ≡ spelling_at parts n.0
  run_last numbers n = ap (spelling_of_number parts) (at_end numbers n)

  -- what comes before a hole that was there already stays
  pub start_stays : (first : List ℕ) (more : List (List ℕ)) (piece : List ℕ) (numbers others : List PartId) (i : ℕ) → length more ≡ length numbers → i ≤ length numbers
      → in_turn 0 (take (suc i) (first ∷ (more ++ piece ∷ []))) (number_run parts (numbers ++ others)) ≡ in_turn 0 (take (suc i) (first ∷ more)) (number_run parts numbers)
  start_stays first more piece numbers others i count within =
      let front = take (suc i) (first ∷ more) in
      ap (λ (ps : List (List ℕ)). in_turn 0 (first ∷ ps) (number_run parts (numbers ++ others))) (taken_before more (piece ∷ []) i (omega (arith, within, count)))
      ∙ same_turn 0 front (number_run parts (numbers ++ others)) (number_run parts numbers) (λ j lo hi. run_before numbers others j (omega (arith, hi, within, length-take (suc i) (first ∷ more))))

  -- the spelling of one more part, with a piece behind it
  pub one_more : (first : List ℕ) (more : List (List ℕ)) (piece : List ℕ) (numbers : List PartId) (n : PartId) → length more ≡ length numbers
      → in_turn 0 (first ∷ (more ++ piece ∷ [])) (number_run parts (numbers ++ n ∷ [])) ≡ in_turn 0 (first ∷ more) (number_run parts numbers) ++ (spelling_at parts n.0 ++ piece)
  one_more first more piece numbers n count =
      let run = number_run parts (numbers ++ n ∷ []) in
      let last : run (length more) ≡ spelling_at parts n.0 = ap run count ∙ run_last numbers n in
      turn_more first more piece run
      ∙ ap (λ (bytes : List ℕ). in_turn 0 (first ∷ more) run ++ (bytes ++ piece)) last
      ∙ ap (λ (bytes : List ℕ). bytes ++ (spelling_at parts n.0 ++ piece)) (same_turn 0 (first ∷ more) run (number_run parts numbers) (λ j lo hi. run_before numbers (n ∷ []) j (omega (arith, hi, count))))
