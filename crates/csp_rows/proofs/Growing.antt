-- Bytes are split hole by hole.
use Rattle.std.proofs.Common.{◌≡◌, ℕ, ◌+◌, ◌-◌, ◌<◌, suc, List, [], ◌∷◌, ◌++◌, length, get_or, slice_get, Some, Contains, refl, sym, ap, subst, ◌∙◌, arith, append_assoc, ⊎_elim}
use Rattle.std.proofs.lemmas.List.{append-nil, get_or_append_left, length-append, take_all}
use Rattle.std.proofs.lemmas.Option.{slice_get_within}
use Rattle.std.proofs.Math.Seq.{get_or-append_seam}
use Rattle.theory_shapes.specs.Pieces.{in_turn}
use Rattle.theory_shapes.proofs.Segments.{all_append}
use Rattle.csp_rows.specs.declared.numbers.PartId.{PartId}
use Rattle.csp_rows.specs.declared.part.Part.{Part}
use Rattle.csp_rows.specs.declared.places.Place.{Place}
use Rattle.csp_rows.specs.Places.{place_at}
use Rattle.csp_rows.specs.Rows.{spelling_at}
use Rattle.csp_rows.specs.Split.{AreSpelledBetween, AreTried, IsInFront, IsPlaceOf, IsSplitUpTo, number_run}
use Rattle.csp_rows.proofs.Turning.{at_end, before_end, before_or_last, one_more, run_before, run_last, start_stays}

abbrev no_place : Place
no_place = record { start = 0; end = 0 }

module _ {A : Type 0} (parts : List (Part A)) (bytes first : List ℕ) where
  -- no part as yet
  pub split_none : (rest : List ℕ) → bytes ≡ first ++ rest → IsSplitUpTo parts bytes (first ∷ []) [] [] rest
  split_none rest is = record {
    between = record { among = tt; count = refl; spelled = is ∙ ap (λ (xs : List ℕ). xs ++ rest) (sym (append-nil first)) };
    one_each = refl;
    placed = λ hole within. absurd (omega (arith, within));
  }

  -- the next one
  module _ (more : List (List ℕ)) (numbers : List PartId) (places : List Place) (rest : List ℕ) (is : IsSplitUpTo parts bytes (first ∷ more) numbers places rest)
      (n : PartId) (behind piece last : List ℕ) (front : IsInFront parts rest n behind) (next : behind ≡ piece ++ last) where
    abbrev ps : List (List ℕ)
    ps = first ∷ (more ++ piece ∷ [])

    abbrev all : List PartId
    all = numbers ++ n ∷ []

    count : length more ≡ length numbers
    count = let e = is.between.count in omega (arith, e)

    between_more : AreSpelledBetween parts bytes ps all last
    between_more =
        let before = in_turn 0 (first ∷ more) (number_run parts numbers) in
        let run = spelling_at parts n.0 in
        record {
          among = all_append (λ (m : PartId). m.0 < length parts) numbers (n ∷ []) is.between.among (front.0, tt);
          count = omega (arith, count, length-append more (piece ∷ []), length-append numbers (n ∷ []));
          spelled = is.between.spelled ∙ ap (λ (xs : List ℕ). before ++ xs) (front.1 ∙ ap (λ (xs : List ℕ). run ++ xs) next ∙ sym (append_assoc run piece last))
              ∙ sym (append_assoc before (run ++ piece) last) ∙ ap (λ (xs : List ℕ). xs ++ last) (sym (one_more parts first more piece numbers n count));
        }

    module _ (place : Place) (start : place.start ≡ length bytes - length rest) (end : place.end ≡ length bytes - length behind) where
      placed_before : (hole : ℕ) → hole < length numbers → IsPlaceOf parts ps all hole (place_at (places ++ place ∷ []) hole)
      placed_before hole within =
          let here = get_or_append_left places (place ∷ []) no_place hole (omega (arith, within, is.one_each)) in
          let old = is.placed hole within in
          let starts = ap (λ (xs : List ℕ). length xs) (start_stays parts first more piece numbers (n ∷ []) hole count (omega (arith, within))) in
          let runs = ap (λ (xs : List ℕ). length xs) (run_before parts numbers (n ∷ []) hole within) in
          subst (IsPlaceOf parts ps all hole) (sym here) (record { start = old.start ∙ sym starts; end = old.end ∙ ap (λ (k : ℕ). (place_at places hole).start + k) (sym runs) })

      placed_last : IsPlaceOf parts ps all (length numbers) place
      placed_last =
          let before = in_turn 0 (first ∷ more) (number_run parts numbers) in
          let starts = ap (λ (xs : List ℕ). length xs) (start_stays parts first more piece numbers (n ∷ []) (length numbers) count (omega arith)) in
          let whole = ap (λ (xs : List (List ℕ)). length (in_turn 0 xs (number_run parts numbers))) (take_all (suc (length numbers)) (first ∷ more) (omega (arith, count))) in
          let runs = ap (λ (xs : List ℕ). length xs) (run_last parts numbers n) in
          let spelled = ap (λ (xs : List ℕ). length xs) is.between.spelled ∙ length-append before rest in
          let behind_run = ap (λ (xs : List ℕ). length xs) front.1 ∙ length-append (spelling_at parts n.0) behind in
          record { start = omega (arith, start, starts, whole, spelled); end = omega (arith, start, end, runs, spelled, behind_run) }

      place_last : place_at (places ++ place ∷ []) (length numbers) ≡ place
      place_last = subst (λ (k : ℕ). place_at (places ++ place ∷ []) k ≡ place) is.one_each (get_or-append_seam places place [] no_place)

      pub split_more : IsSplitUpTo parts bytes ps all (places ++ place ∷ []) last
      split_more = record {
        between = between_more;
        one_each = omega (arith, is.one_each, length-append places (place ∷ []), length-append numbers (n ∷ []));
        placed = λ hole within.
            ⊎_elim (λ lt. placed_before hole lt)
            (λ e. subst (λ (k : ℕ). IsPlaceOf parts ps all k (place_at (places ++ place ∷ []) k)) (sym e) (subst (IsPlaceOf parts ps all (length numbers)) (sym place_last) placed_last))
            (before_or_last hole (length numbers) (omega (arith, within, length-append numbers (n ∷ []))));
      }

-- one more that is tried
pub tried_more : (tried : List (List PartId)) (numbers : List PartId) (n : PartId) → AreTried tried numbers → Contains (get_or tried (length numbers) []) n → AreTried tried (numbers ++ n ∷ [])
tried_more tried numbers n are has hole m is =
    let within = slice_get_within (numbers ++ n ∷ []) hole m is in
    ⊎_elim (λ lt. are hole m (sym (before_end numbers (n ∷ []) hole lt) ∙ is))
    (λ e.
    let same : Some n ≡ Some m = sym (at_end numbers n) ∙ subst (λ (k : ℕ). slice_get (numbers ++ n ∷ []) k ≡ Some m) e is in
    let one : n ≡ m = cc same in
    subst (λ (k : ℕ). Contains (get_or tried k []) m) (sym e) (subst (Contains (get_or tried (length numbers) [])) one has))
    (before_or_last hole (length numbers) (omega (arith, within, length-append numbers (n ∷ []))))
