-- What is known of parts, and of the shape of a term.
use Rattle.std.specs.Prelude.{◌≡◌, ◌<◌, ⊤, ℕ, zero, suc, IsTrue, List, [], ◌∷◌, length, Option, Some, None}
use Rattle.std.specs.List.{AllByRecursion}
use Rattle.theory_syntax.specs.Process.{Process, Script}
use Rattle.theory_semantics.specs.Meaning.Limits.{fits}
use Rattle.theory_shapes.specs.Alphabet.{alphabet}
use Rattle.theory_shapes.specs.Operators.{HasValues}
use Rattle.theory_shapes.specs.Parts.{shape_of}
use Rattle.theory_shapes.specs.Pieces.{pieces}
use Rattle.theory_shapes.specs.Shape.{Hole, Shape}
use Rattle.theory_spelling.specs.Spellable.{IsSpellable}
use Rattle.csp_term.specs.Term.{process_of}
use Rattle.csp_numbers.specs.Lists.{items_of}
use Rattle.csp_numbers.specs.Shaped.{IsMeasured}
use Rattle.kept_parts.specs.KnownSteps.{AreKnown, script_in}
use Rattle.csp_rows.specs.declared.splitting.SplitRow.{SplitRow}
use Rattle.kept_parts.specs.declared.last_shape.LastShape.{LastShape}
use Rattle.kept_parts.specs.declared.known_parts.KnownParts.{KnownParts}
use Rattle.kept_parts.specs.declared.kept_shapes.EarlierRow.{EarlierRow}
use Rattle.kept_parts.specs.declared.kept_shapes.EarlierShape.{EarlierShape}
use Rattle.kept_parts.specs.declared.finding.Found.{Found}
use Rattle.kept_parts.specs.declared.finding.Found.TheVariants as found
use Rattle.kept_parts.specs.Rows.{IsRowAmong}

-- A term within the limits that has a spelling of its own, its shape by the numbers of these events, with what it measures,
-- and the bytes round its parts.
pub record IsShapeKept {A : Type 0} (script : Script) (last : LastShape A) : Type 0 where
  pub within : IsTrue (fits (process_of last.term))
  pub spellable : IsSpellable (process_of last.term)
  pub measured : IsMeasured (alphabet script) script (shape_of (process_of last.term)) last.measured
  pub pieces : items_of last.pieces.items ≡ pieces (shape_of (process_of last.term))

abbrev pub IsLastKept : {A : Type 0} → Script → Option (LastShape A) → Type 0
IsLastKept script None = ⊤
IsLastKept script (Some last) = IsShapeKept script last

-- it is that of the term, or one of its sets or renamings has no value
abbrev pub IsShapeAnswered : {A : Type 0} → Script → Process → Option (LastShape A) → Type 0
IsShapeAnswered script t None = HasValues script (shape_of t) → ⊥
IsShapeAnswered script t (Some last) = (process_of last.term ≡ t) × IsShapeKept script last

-- The events and the parts are those of the script, and so are the last shape and the earlier ones.
pub record AreKnownOf {A : Type 0} (script : Script) (k : KnownParts A) : Type 0 where
  pub alphabet : k.alphabet ≡ alphabet script
  pub of_script : script_in k.parts ≡ script
  pub parts : AreKnown k.parts
  pub last : IsLastKept script k.last
  pub earlier : AllByRecursion (λ e. IsLastKept script e.shape) k.earlier.items

abbrev pub IsKnownOf : {A : Type 0} → Script → Option (KnownParts A) → Type 0
IsKnownOf script None = ⊤
IsKnownOf script (Some k) = AreKnownOf script k

-- the shape that is kept, if any is
abbrev pub shape_in : {A : Type 0} → Option (LastShape A) → Shape
shape_in None = Hole
shape_in (Some last) = shape_of (process_of last.term)

-- the term is a row of known parts in the last shape
abbrev pub IsRowOf : {A : Type 0} → KnownParts A → Process → SplitRow A → Type 0
IsRowOf k t row = IsRowAmong k.parts (shape_in k.last) t row

-- the earlier shape of a place, none beyond them
abbrev pub earlier_at : {A : Type 0} → List (EarlierShape A) → ℕ → Option (LastShape A)
earlier_at [] place = None
earlier_at (e ∷ es) zero = e.shape
earlier_at (e ∷ es) (suc place) = earlier_at es place

-- the term is a row of known parts in one of the earlier shapes
abbrev pub IsEarlierRowOf : {A : Type 0} → KnownParts A → Process → EarlierRow A → Type 0
IsEarlierRowOf k t found = (found.place < length k.earlier.items) × IsRowAmong k.parts (shape_in (earlier_at k.earlier.items found.place)) t found.row

-- it is found as such a row, or as a whole
abbrev pub IsFound : {A : Type 0} → KnownParts A → Process → Found A → Type 0
IsFound k t (found.Row row) = IsRowOf k t row
IsFound k t (found.Whole term) = process_of term ≡ t
