-- There is one way to split bytes at most.
use Rattle.std.proofs.Common.{◌≡◌, ℕ, ◌+◌, ◌<◌, ◌≤◌, zero, suc, List, [], ◌∷◌, ◌++◌, length, drop, get_or, slice_get, Some, Contains, sym, ap, ap₂, subst, ◌∙◌, arith}
use Rattle.std.specs.List.{AllByRecursion}
use Rattle.std.proofs.lemmas.List.{append-nil, append_cancel_left, drop_more, drop_all}
use Rattle.std.proofs.lemmas.Option.{slice_get-get_or}
use Rattle.theory_spelling.proofs.Laws.{beginnings}
use Rattle.theory_shapes.specs.Pieces.{runs_with}
use Rattle.csp_rows.proofs.Members.{all_contained}
use Rattle.csp_rows.specs.declared.numbers.PartId.{PartId}
use Rattle.csp_rows.specs.declared.part.Part.{Part}
use Rattle.csp_rows.specs.Numbering.{Numbering}
use Rattle.csp_rows.specs.Places.{AreSpelled}
use Rattle.csp_rows.specs.Rows.{spelling_at}
use Rattle.csp_rows.specs.ByParts.{AreSpellable}
use Rattle.csp_rows.specs.Split.{AreSpelledBetween, AreTried, IsInFront, IsNoneSplit, IsNotInFront, number_run, spelling_of_number}

-- what is left from a hole on is all that any way to split the bytes leaves there
abbrev pub IsAllLeft : {A : Type 0} → List (Part A) → List ℕ → List ℕ → List (List ℕ) → List (List PartId) → ℕ → List ℕ → Type 0
IsAllLeft parts bytes first later tried hole rest =
    (z : Numbering) (numbers : List PartId) → AreSpelled z parts → AreSpellable z (length parts) → AreTried tried numbers → AreSpelledBetween parts bytes (first ∷ later) numbers []
    → rest ≡ runs_with hole (drop hole later) (number_run parts numbers)

at_number : {count : ℕ} (numbers : List PartId) (i : ℕ) (m : PartId) → AllByRecursion (λ n. n.0 < count) numbers → slice_get numbers i ≡ Some m → m.0 < count
at_number [] i m among there = absurd (cc there)
at_number {count = count} (n ∷ numbers) zero m among there = let same : n ≡ m = cc there in subst (λ (k : PartId). k.0 < count) same among.0
at_number (n ∷ numbers) (suc i) m among there = at_number numbers i m among.1 there

module _ {A : Type 0} (parts : List (Part A)) (bytes first : List ℕ) (later : List (List ℕ)) (tried : List (List PartId)) where
  behind_first : (numbers : List PartId) → AreSpelledBetween parts bytes (first ∷ later) numbers [] → bytes ≡ first ++ runs_with 0 later (number_run parts numbers)
  behind_first numbers are = are.spelled ∙ append-nil (first ++ runs_with 0 later (number_run parts numbers))

  pub left_at_first : (rest : List ℕ) → bytes ≡ first ++ rest → IsAllLeft parts bytes first later tried 0 rest
  left_at_first rest is z numbers known spellable are between = append_cancel_left first rest (runs_with 0 later (number_run parts numbers)) (sym is ∙ behind_first numbers between)

  pub none_at_first : ((rest : List ℕ) → bytes ≡ first ++ rest → ⊥) → IsNoneSplit parts bytes (first ∷ later) tried
  none_at_first never z numbers known spellable are between = never (runs_with 0 later (number_run parts numbers)) (behind_first numbers between)

  module _ (hole : ℕ) (rest piece : List ℕ) (left : IsAllLeft parts bytes first later tried hole rest) (within : hole < length later) (is_piece : get_or later hole [] ≡ piece) where
    module _ (z : Numbering) (numbers : List PartId) (known : AreSpelled z parts) (spellable : AreSpellable z (length parts)) (are : AreTried tried numbers) (between : AreSpelledBetween parts bytes (first ∷ later) numbers []) where
      abbrev after : List ℕ
      after = runs_with (suc hole) (drop (hole + 1) later) (number_run parts numbers)

      -- the part that stands in the hole
      its_part : (m : PartId) × (slice_get numbers hole ≡ Some m) × Contains (get_or tried hole []) m × IsInFront parts rest m (piece ++ after)
      its_part =
          let e = between.count in
          let m = get_or numbers hole (record { 0 = 0 }) in
          let there : slice_get numbers hole ≡ Some m = slice_get-get_or numbers hole (record { 0 = 0 }) (omega (arith, e, within)) in
          let has = are hole m there in
          let run : number_run parts numbers hole ≡ spelling_at parts m.0 = ap (spelling_of_number parts) there in
          let spelled =
          left z numbers known spellable are between ∙ ap (λ (ps : List (List ℕ)). runs_with hole ps (number_run parts numbers)) (drop_more later hole [] within)
          ∙ ap₂ (λ (r : List ℕ) (p : List ℕ). r ++ (p ++ after)) run is_piece
          in
          let low : m.0 < length parts = at_number numbers hole m between.among there in
          (m, there, has, (low, spelled))

      -- so the part that is found is it
      same_behind : (n : PartId) (behind : List ℕ) → IsInFront parts rest n behind → behind ≡ piece ++ after
      same_behind n behind front =
          let mine = its_part in
          let low = mine.3.0 in
          let both : spelling_at parts n.0 ++ behind ≡ spelling_at parts mine.0.0 ++ (piece ++ after) = sym front.1 ∙ mine.3.1 in
          (beginnings (z.part n.0) (z.part mine.0.0) behind (piece ++ after) (spellable n.0 front.0) (spellable mine.0.0 low)
          (ap (λ (xs : List ℕ). xs ++ behind) (sym (known n.0 front.0)) ∙ both ∙ ap (λ (xs : List ℕ). xs ++ (piece ++ after)) (known mine.0.0 low))).1

    pub left_more : (n : PartId) (behind last : List ℕ) → IsInFront parts rest n behind → behind ≡ piece ++ last → IsAllLeft parts bytes first later tried (hole + 1) last
    left_more n behind last front next z numbers known spellable are between =
        let run = number_run parts numbers in
        let rest_is = append_cancel_left piece last (after z numbers known spellable are between) (sym next ∙ same_behind z numbers known spellable are between n behind front) in
        rest_is ∙ ap (λ (k : ℕ). runs_with k (drop (hole + 1) later) run) (let e : suc hole ≡ hole + 1 = omega arith in e)

    pub none_in_front : AllByRecursion (IsNotInFront parts rest) (get_or tried hole []) → IsNoneSplit parts bytes (first ∷ later) tried
    none_in_front never z numbers known spellable are between =
        let mine = its_part z numbers known spellable are between in
        all_contained (IsNotInFront parts rest) (get_or tried hole []) mine.0 never mine.2 (piece ++ after z numbers known spellable are between) mine.3

    pub none_behind : (n : PartId) (behind : List ℕ) → IsInFront parts rest n behind → ((last : List ℕ) → behind ≡ piece ++ last → ⊥) → IsNoneSplit parts bytes (first ∷ later) tried
    none_behind n behind front never z numbers known spellable are between =
        never (after z numbers known spellable are between) (same_behind z numbers known spellable are between n behind front)

  -- and all is taken at the end
  pub none_left : (hole : ℕ) (rest : List ℕ) → length later ≤ hole → (rest ≡ [] → ⊥) → IsAllLeft parts bytes first later tried hole rest → IsNoneSplit parts bytes (first ∷ later) tried
  none_left hole rest done some left z numbers known spellable are between =
      some (left z numbers known spellable are between ∙ ap (λ (ps : List (List ℕ)). runs_with hole ps (number_run parts numbers)) (drop_all hole later done))
