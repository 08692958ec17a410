-- What is known of a row by what is kept of its parts.
use Rattle.std.specs.Prelude.{◌≡◌, ◌<◌, ℕ, IsTrue, List, length}
use Rattle.std.specs.List.{AllByRecursion}
use Rattle.theory_syntax.specs.Process.{Process, Script}
use Rattle.theory_semantics.specs.Kinds.Scripts.{IsTermOf}
use Rattle.theory_semantics.specs.Meaning.Limits.{fits, size}
use Rattle.theory_spelling.specs.Spellable.{IsSpellable}
use Rattle.theory_spelling.specs.Spelling.{spelling}
use Rattle.theory_shapes.specs.Measures.{levels}
use Rattle.theory_shapes.specs.Operators.{HasValues, IsSpellableShape}
use Rattle.theory_shapes.specs.Shape.{fill, holes}
use Rattle.theory_shapes.specs.ShapeSteps.{AreFired}
use Rattle.csp_rows.specs.declared.part.Part.{Part}
use Rattle.csp_rows.specs.Measures.{AreMeasured}
use Rattle.csp_rows.specs.Numbering.{Numbering}
use Rattle.csp_rows.specs.Places.{AreRunsOf, AreSpelled}
use Rattle.csp_rows.specs.Rows.{ArePartsAmong, ArePartsNumbered, row_parts, row_steps}
use Rattle.csp_rows.specs.Shapes.{IsShapeOf}
use Rattle.csp_rows.specs.Numbers.{EventsRise}
use Rattle.csp_rows.specs.Row.{Row}

-- so many parts have a spelling of their own
abbrev pub AreSpellable : Numbering → ℕ → Type 0
AreSpellable z count = (n : ℕ) → n < count → IsSpellable (z.part n)

-- What is kept of parts: how they are spelled, what they measure, and steps by numbers that stand for an event or a part.
pub record AreKept {A : Type 0} (z : Numbering) (parts : List (Part A)) : Type 0 where
  pub some : 0 < length parts
  pub spellable : AreSpellable z (length parts)
  pub spelled : AreSpelled z parts
  pub measured : AreMeasured z parts
  pub numbered : ArePartsNumbered z.events parts
  pub among : ArePartsAmong (length parts) parts

-- the parts in the holes
abbrev pub parts_in : {A : Type 0} → Numbering → Row A → List Process
parts_in z r = row_parts z r.numbers

-- A row is a term of the script within the limits. It is its shape with its parts in the holes, each of which is kept and
-- was fired. The sets and renamings of the shape have values, by numbers of events that have the order of these, and a
-- spelling of their own. It is spelled and measured so.
pub record IsRowByParts {A : Type 0} (z : Numbering) (script : Script) (r : Row A) : Type 0 where
  pub rising : EventsRise z
  pub kept : AreKept z r.parts
  pub closed : IsTermOf script r.term
  pub within : IsTrue (fits r.term)
  pub filled : length r.numbers ≡ holes r.shape
  pub same : r.term ≡ fill r.shape (parts_in z r)
  pub values : HasValues script r.shape
  pub spellable : IsSpellableShape r.shape
  pub by_numbers : IsShapeOf z script 0 r.shape r.tree
  pub among : AllByRecursion (λ n. n.0 < length r.parts) r.numbers
  pub fired : AreFired script r.shape (parts_in z r) (row_steps z r.parts r.numbers)
  pub spelled : r.bytes ≡ spelling r.term
  pub runs : AreRunsOf r.shape (parts_in z r) r.places
  pub measured : r.nodes ≡ size r.term
  pub leveled : r.over ≡ levels r.shape
