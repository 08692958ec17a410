-- Bytes that are split so spell the shape with the parts.
use Rattle.std.proofs.Common.{◌≡◌, ℕ, ◌<◌, zero, suc, List, [], ◌∷◌, length, take, refl, sym, ap, ◌∙◌, arith}
use Rattle.std.specs.List.{AllByRecursion}
use Rattle.std.proofs.lemmas.List.{append-nil, length-take}
use Rattle.theory_syntax.specs.Process.{Process}
use Rattle.theory_spelling.specs.Reading.{term_of}
use Rattle.theory_spelling.specs.Spellable.{IsSpellable}
use Rattle.theory_spelling.specs.Spelling.{spelling}
use Rattle.theory_spelling.proofs.Laws.{term_again}
use Rattle.theory_shapes.specs.Operators.{IsSpellableShape}
use Rattle.theory_shapes.specs.Pieces.{in_turn, part_run, pieces}
use Rattle.theory_shapes.specs.Shape.{Shape, fill, holes}
use Rattle.theory_shapes.proofs.ByParts.{spellable_by_parts}
use Rattle.theory_shapes.proofs.InPlace.{same_turn}
use Rattle.theory_shapes.proofs.Spelled.{piece_count, spelled_whole}
use Rattle.csp_rows.specs.declared.numbers.PartId.{PartId}
use Rattle.csp_rows.specs.declared.part.Part.{Part}
use Rattle.csp_rows.specs.declared.places.Place.{Place}
use Rattle.csp_rows.specs.Numbering.{Numbering}
use Rattle.csp_rows.specs.Places.{AreSpelled, IsRunAt, place_at}
use Rattle.csp_rows.specs.Rows.{row_parts}
use Rattle.csp_rows.specs.ByParts.{AreSpellable}
use Rattle.csp_rows.specs.Split.{IsSplit, IsTermByParts, number_run}

pub row_count : (z : Numbering) (numbers : List PartId) → length (row_parts z numbers) ≡ length numbers
row_count z [] = refl
row_count z (n ∷ numbers) = ap suc (row_count z numbers)

parts_spellable : (z : Numbering) (count : ℕ) (numbers : List PartId) → AreSpellable z count → AllByRecursion (λ n. n.0 < count) numbers → AllByRecursion IsSpellable (row_parts z numbers)
parts_spellable z count [] spellable among = tt
parts_spellable z count (n ∷ numbers) spellable among = (spellable n.0 among.0, parts_spellable z count numbers spellable among.1)

module _ {A : Type 0} (z : Numbering) (parts : List (Part A)) (known : AreSpelled z parts) where
  -- the runs are the spellings of the parts
  run_is : (numbers : List PartId) (i : ℕ) → AllByRecursion (λ n. n.0 < length parts) numbers → i < length numbers → number_run parts numbers i ≡ part_run (row_parts z numbers) i
  run_is [] i among within = absurd (omega (arith, within))
  run_is (n ∷ numbers) zero among within = known n.0 among.0
  run_is (n ∷ numbers) (suc i) among within = run_is numbers i among.1 (omega (arith, within))

  module _ (s : Shape) (bytes : List ℕ) (numbers : List PartId) (places : List Place) (spellable : AreSpellable z (length parts)) (by_shape : IsSpellableShape s) (is : IsSplit parts bytes (pieces s) numbers places) where
    abbrev ps : List Process
    ps = row_parts z numbers

    filled : length numbers ≡ holes s
    filled = let e = is.between.count in omega (arith, e, piece_count s)

    long : length ps ≡ holes s
    long = row_count z numbers ∙ filled

    -- so far as there are holes
    front_is : (front : List (List ℕ)) → length front < suc (suc (holes s)) → in_turn 0 front (number_run parts numbers) ≡ in_turn 0 front (part_run ps)
    front_is front few = same_turn 0 front (number_run parts numbers) (part_run ps) (λ i lo hi. run_is numbers i is.between.among (omega (arith, hi, few, filled)))

    spelled : bytes ≡ spelling (fill s ps)
    spelled = is.between.spelled ∙ append-nil (in_turn 0 (pieces s) (number_run parts numbers)) ∙ front_is (pieces s) (omega (arith, piece_count s)) ∙ sym (spelled_whole s ps)

    run_at : (hole : ℕ) → hole < holes s → IsRunAt s ps hole (place_at places hole)
    run_at hole within =
        let there = is.placed hole (omega (arith, within, filled)) in
        let front = take (suc hole) (pieces s) in
        let starts = ap (λ (xs : List ℕ). length xs) (front_is front (omega (arith, within, piece_count s, length-take (suc hole) (pieces s)))) in
        let runs = ap (λ (xs : List ℕ). length xs) (run_is numbers hole is.between.among (omega (arith, within, filled))) in
        record { start = there.start ∙ starts; end = omega (arith, there.start, there.end, starts, runs) }

    pub split_terms : IsTermByParts z s bytes numbers places
    split_terms = record {
      filled = filled;
      spelled = spelled;
      read = ap term_of spelled ∙ term_again (fill s ps) ((spellable_by_parts s ps long).1 (by_shape, parts_spellable z (length parts) numbers spellable is.between.among));
      runs = run_at;
    }
