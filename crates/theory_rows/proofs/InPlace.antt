-- Steps that leave the shape of a row as it is.
use Rattle.std.proofs.Common.{◌≡◌, ◌<◌, ℕ, zero, suc, List, [], ◌∷◌, length, set, refl, sym, ap, ap₂, ◌∙◌}
use Rattle.theory_syntax.specs.Process.{Process}
use Rattle.theory_shapes.specs.Changes.{changed}
use Rattle.theory_shapes.specs.Shape.{fill, part_at}
use Rattle.csp_rows.specs.declared.changes.Change.{Change}
use Rattle.csp_rows.specs.declared.numbers.PartId.{PartId}
use Rattle.csp_rows.specs.Numbering.{Numbering}
use Rattle.csp_rows.specs.Rows.{row_parts}
use Rattle.csp_rows.specs.Runs.{changes_in}
use Rattle.csp_rows.specs.ByOrder.{row_after}
use Rattle.theory_rows.specs.Tables.{AreAmong, IsRowIn, IsRowOf, Row, Tables, parts_in, shape_in}
use Rattle.theory_rows.specs.InPlace.{AreChangesIn, StandsFor, changed_row}

pub same_parts_in : (z : Numbering) (t : Tables) → StandsFor z t → (ns : List PartId) → AreAmong t ns → row_parts z ns ≡ parts_in t ns
same_parts_in z t stands [] among = refl
same_parts_in z t stands (n ∷ ns) among = ap₂ (λ (p : Process) (ps : List Process). p ∷ ps) (stands n.0 among.0) (same_parts_in z t stands ns among.1)

set_among : (t : Tables) (ns : List PartId) (i : ℕ) (n : PartId) → AreAmong t ns → n.0 < length t.parts → AreAmong t (set ns i n)
set_among t [] i n among few = tt
set_among t (m ∷ ns) zero n among few = (few, among.1)
set_among t (m ∷ ns) (suc i) n among few = (among.0, set_among t ns i n among.1 few)

set_count : (ns : List PartId) (i : ℕ) (n : PartId) → length (set ns i n) ≡ length ns
set_count [] i n = refl
set_count (m ∷ ns) zero n = refl
set_count (m ∷ ns) (suc i) n = ap suc (set_count ns i n)

set_parts : (t : Tables) (ns : List PartId) (i : ℕ) (n : PartId) → parts_in t (set ns i n) ≡ set (parts_in t ns) i (part_at t.parts n.0)
set_parts t [] i n = refl
set_parts t (m ∷ ns) zero n = refl
set_parts t (m ∷ ns) (suc i) n = ap (λ (ps : List Process). part_at t.parts m.0 ∷ ps) (set_parts t ns i n)

module _ (z : Numbering) (t : Tables) (stands : StandsFor z t) where
  after_parts : (cs : List Change) (ns : List PartId) → AreChangesIn t cs → AreAmong t ns → AreAmong t (row_after cs ns) × (parts_in t (row_after cs ns) ≡ changed (changes_in z cs) (parts_in t ns)) × (length (row_after cs ns) ≡ length ns)
  after_parts [] ns are among = (among, refl, refl)
  after_parts (c ∷ cs) ns are among =
      let rest = after_parts cs (set ns c.hole c.part) are.1 (set_among t ns c.hole c.part among are.0) in
      let part : part_at t.parts c.part.0 ≡ z.part c.part.0 = sym (stands c.part.0 are.0) in (
        rest.0,
        rest.1 ∙ ap (changed (changes_in z cs)) (set_parts t ns c.hole c.part ∙ ap (set (parts_in t ns) c.hole) part),
        rest.2 ∙ set_count ns c.hole c.part,
      )

  pub changed_in_place : (r : Row) (cs : List Change) → IsRowIn t r → AreChangesIn t cs → IsRowOf t (fill (shape_in t r.shape) (changed (changes_in z cs) (row_parts z r.parts))) (changed_row cs r)
  changed_in_place r cs is are =
      let after = after_parts cs r.parts are is.parts in
      record {
        within = record { shape = is.shape; parts = after.0; filled = after.2 ∙ is.filled };
        is = ap (fill (shape_in t r.shape)) (after.1 ∙ ap (changed (changes_in z cs)) (sym (same_parts_in z t stands r.parts is.parts)));
      }
