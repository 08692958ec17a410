-- A term is a row of its parts.
use Rattle.std.proofs.Common.{◌≡◌, ◌<◌, ◌+◌, ℕ, List, [], ◌∷◌, length, refl, sym, ap, ap₂, subst, ◌∙◌}
use Rattle.std.specs.Prelude.{fold}
use Rattle.std.specs.List.{AllByRecursion, sum_by}
use Rattle.std.proofs.lemmas.List.{length-map}
use Rattle.theory_syntax.specs.Process.{Process}
use Rattle.theory_semantics.specs.Meaning.Limits.{size}
use Rattle.theory_spelling.specs.Spellable.{IsSpellable}
use Rattle.theory_shapes.specs.Measures.{own_size}
use Rattle.theory_shapes.specs.Operators.{IsSpellableShape}
use Rattle.theory_shapes.specs.Parts.{parts_of, shape_of}
use Rattle.theory_shapes.specs.Shape.{Shape, fill, holes}
use Rattle.theory_shapes.proofs.Apart.{as_many, filled_again}
use Rattle.theory_shapes.proofs.ByParts.{spellable_by_parts}
use Rattle.theory_shapes.proofs.Measured.{size_by_parts}
use Rattle.csp_rows.specs.declared.numbers.PartId.{PartId}
use Rattle.csp_rows.specs.declared.part.Part.{Part}
use Rattle.csp_rows.specs.declared.places.Place.{Place}
use Rattle.csp_rows.specs.Measures.{AreMeasured}
use Rattle.csp_rows.specs.Numbering.{Numbering}
use Rattle.csp_rows.specs.Places.{AreRunsOf}
use Rattle.csp_rows.specs.Rows.{row_parts, size_at}

pub row_count : (z : Numbering) (row : List PartId) → length (row_parts z row) ≡ length row
row_count z row = length-map row (λ (n : PartId). z.part n.0)

pub taken_apart : (z : Numbering) (t : Process) (row : List PartId) → row_parts z row ≡ parts_of t → (length row ≡ holes (shape_of t)) × (t ≡ fill (shape_of t) (row_parts z row))
taken_apart z t row same = (
  sym (row_count z row) ∙ ap (λ (ps : List Process). length ps) same ∙ as_many t,
  sym (filled_again t) ∙ ap (fill (shape_of t)) (sym same),
)

pub runs_there : (z : Numbering) (t : Process) (row : List PartId) (places : List Place) → row_parts z row ≡ parts_of t → AreRunsOf (shape_of t) (parts_of t) places → AreRunsOf (shape_of t) (row_parts z row) places
runs_there z t row places same are = subst (λ (ps : List Process). AreRunsOf (shape_of t) ps places) (sym same) are

pub shape_spellable : (t : Process) → IsSpellable t → IsSpellableShape (shape_of t)
shape_spellable t spellable = ((spellable_by_parts (shape_of t) (parts_of t) (as_many t)).0 (subst IsSpellable (sym (filled_again t)) spellable)).0

module _ {A : Type 0} (z : Numbering) (parts : List (Part A)) (are : AreMeasured z parts) where
  sizes_told : (n m : ℕ) (row : List PartId) → n ≡ m → AllByRecursion (λ p. p.0 < length parts) row → fold (λ a p. a + size p) n (row_parts z row) ≡ fold (λ a p. a + size_at parts p.0) m row
  sizes_told n m [] same known = same
  sizes_told n m (p ∷ row) same known = sizes_told (n + size (z.part p.0)) (m + size_at parts p.0) row (ap₂ ◌+◌ same (sym (are p.0 known.0).size)) known.1

  pub size_told : (s : Shape) (row : List PartId) → AllByRecursion (λ n. n.0 < length parts) row → length row ≡ holes s → size (fill s (row_parts z row)) ≡ own_size s + sum_by (λ n. size_at parts n.0) row
  size_told s row known long = size_by_parts s (row_parts z row) (row_count z row ∙ long) ∙ ap (λ (n : ℕ). own_size s + n) (sizes_told 0 0 row refl known)
