-- How far bytes are split.
use Rattle.std.proofs.Common.{◌≡◌, ℕ, ◌+◌, ◌-◌, ◌<◌, ◌≤◌, List, [], ◌∷◌, ◌++◌, length, take, get_or, Contains, refl, sym, ap, subst, ◌∙◌, arith}
use Rattle.std.proofs.lemmas.List.{length-append, length-take, take_all, take_more}
use Rattle.theory_shapes.specs.Pieces.{in_turn}
use Rattle.csp_rows.specs.declared.numbers.PartId.{PartId}
use Rattle.csp_rows.specs.declared.part.Part.{Part}
use Rattle.csp_rows.specs.declared.places.Place.{Place}
use Rattle.csp_rows.specs.Split.{AreTried, IsInFront, IsNoneSplit, IsSplit, IsSplitUpTo, number_run}
use Rattle.csp_rows.proofs.Growing.{split_more, split_none, tried_more}
use Rattle.csp_rows.proofs.Only.{IsAllLeft, left_at_first, left_more, none_left}

-- Before this hole the bytes are split, by parts that are tried, and from it on all is left that any such split leaves there.
pub record IsSplitSoFar {A : Type 0} (parts : List (Part A)) (bytes first : List ℕ) (later : List (List ℕ)) (tried : List (List PartId)) (hole : ℕ) (numbers : List PartId) (places : List Place) (rest : List ℕ) : Type 0 where
  pub split : IsSplitUpTo parts bytes (first ∷ take hole later) numbers places rest
  pub tried_so : AreTried tried numbers
  pub left : IsAllLeft parts bytes first later tried hole rest

module _ {A : Type 0} (parts : List (Part A)) (bytes first : List ℕ) (later : List (List ℕ)) (tried : List (List PartId)) where
  none_so_far : (rest : List ℕ) → bytes ≡ first ++ rest → IsSplitSoFar parts bytes first later tried 0 [] [] rest
  none_so_far rest is = record {
    split = split_none parts bytes first rest is;
    tried_so = λ hole n there. absurd (cc there);
    left = left_at_first parts bytes first later tried rest is;
  }

  pub first_so_far : (numbers : List PartId) (places : List Place) (rest : List ℕ) → numbers ≡ [] → places ≡ [] → bytes ≡ first ++ rest → IsSplitSoFar parts bytes first later tried 0 numbers places rest
  first_so_far numbers places rest no_number no_place is =
      subst (λ (ns : List PartId). IsSplitSoFar parts bytes first later tried 0 ns places rest) (sym no_number)
      (subst (λ (ps : List Place). IsSplitSoFar parts bytes first later tried 0 [] ps rest) (sym no_place) (none_so_far rest is))

  module _ (hole : ℕ) (numbers : List PartId) (places : List Place) (rest : List ℕ) (is : IsSplitSoFar parts bytes first later tried hole numbers places rest) where
    -- what is left is no longer than all
    pub left_short : length rest ≤ length bytes
    left_short =
        let before = in_turn 0 (first ∷ take hole later) (number_run parts numbers) in
        let all = ap (λ (xs : List ℕ). length xs) is.split.between.spelled ∙ length-append before rest in
        omega (arith, all)

    one_so_far : (n : PartId) (behind piece last : List ℕ) (place : Place) → hole < length later → get_or later hole [] ≡ piece → Contains (get_or tried hole []) n → IsInFront parts rest n behind → behind ≡ piece ++ last
        → place.start ≡ length bytes - length rest → place.end ≡ length bytes - length behind → IsSplitSoFar parts bytes first later tried (hole + 1) (numbers ++ n ∷ []) (places ++ place ∷ []) last
    one_so_far n behind piece last place within is_piece has front next start end =
        let e = is.split.between.count in
        let count : hole ≡ length numbers = omega (arith, e, within, length-take hole later) in
        let taken : take hole later ++ piece ∷ [] ≡ take (hole + 1) later = ap (λ (p : List ℕ). take hole later ++ p ∷ []) (sym is_piece) ∙ sym (take_more later hole [] within) in
        record {
          split = subst (λ (ps : List (List ℕ)). IsSplitUpTo parts bytes (first ∷ ps) (numbers ++ n ∷ []) (places ++ place ∷ []) last) taken
              (split_more parts bytes first (take hole later) numbers places rest is.split n behind piece last front next place start end);
          tried_so = tried_more tried numbers n is.tried_so (subst (λ (k : ℕ). Contains (get_or tried k []) n) count has);
          left = left_more parts bytes first later tried hole rest piece is.left within is_piece n behind last front next;
        }

    pub more_so_far : (n : PartId) (behind piece last : List ℕ) (all : List PartId) (placed : List Place) → all ≡ numbers ++ n ∷ [] → placed ≡ places ++ record { start = length bytes - length rest; end = length bytes - length behind } ∷ []
        → hole < length later → get_or later hole [] ≡ piece → Contains (get_or tried hole []) n → IsInFront parts rest n behind → behind ≡ piece ++ last → IsSplitSoFar parts bytes first later tried (hole + 1) all placed last
    more_so_far n behind piece last all placed numbered there within is_piece has front next =
        let place : Place = record { start = length bytes - length rest; end = length bytes - length behind } in
        subst (λ (ns : List PartId). IsSplitSoFar parts bytes first later tried (hole + 1) ns placed last) (sym numbered)
        (subst (λ (ps : List Place). IsSplitSoFar parts bytes first later tried (hole + 1) (numbers ++ n ∷ []) ps last) (sym there) (one_so_far n behind piece last place within is_piece has front next refl refl))

    pub all_so_far : length later ≤ hole → rest ≡ [] → IsSplit parts bytes (first ∷ later) numbers places × AreTried tried numbers
    all_so_far done empty = (
      subst (λ (ps : List (List ℕ)). IsSplitUpTo parts bytes (first ∷ ps) numbers places []) (take_all hole later done)
          (subst (IsSplitUpTo parts bytes (first ∷ take hole later) numbers places) empty is.split),
      is.tried_so,
    )

    pub some_left : length later ≤ hole → (rest ≡ [] → ⊥) → IsNoneSplit parts bytes (first ∷ later) tried
    some_left done some = none_left parts bytes first later tried hole rest done some is.left
