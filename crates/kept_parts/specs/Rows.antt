-- Rows of parts, as terms are known by them.
use Rattle.std.specs.Prelude.{◌≡◌, ◌<◌, ⊤, ℕ, List, [], ◌∷◌, length, slice_get, Some}
use Rattle.std.specs.List.{AllByRecursion}
use Rattle.theory_syntax.specs.Process.{Process}
use Rattle.theory_shapes.specs.Alphabet.{alphabet}
use Rattle.theory_shapes.specs.Shape.{Shape, fill, holes}
use Rattle.csp_rows.specs.declared.numbers.PartId.{PartId}
use Rattle.csp_rows.specs.Numbering.{Numbering}
use Rattle.csp_rows.specs.Places.{AreRunsOf}
use Rattle.csp_rows.specs.Rows.{row_parts}
use Rattle.csp_numbers.specs.Numbers.{NumbersEvents}
use Rattle.kept_parts.specs.declared.parts.Parts.{Parts}
use Rattle.kept_parts.specs.KnownSteps.{processes_of, script_in}
use Rattle.kept_parts.specs.Places.{NumbersParts}
use Rattle.csp_rows.specs.declared.splitting.SplitRow.{SplitRow}

-- The numbers of events and of parts are their places.
pub record NumbersAll {A : Type 0} (k : Parts A) (z : Numbering) : Type 0 where
  pub events : NumbersEvents (alphabet (script_in k)) z
  pub parts : NumbersParts (processes_of k) z

-- The term is the shape with the parts of these numbers, of which there are so many, and they are spelled at these places.
pub record IsTakenApart {A : Type 0} (z : Numbering) (count : ℕ) (s : Shape) (t : Process) (row : SplitRow A) : Type 0 where
  pub filled : length row.numbers.items ≡ holes s
  pub same : t ≡ fill s (row_parts z row.numbers.items)
  pub among : AllByRecursion (λ n. n.0 < count) row.numbers.items
  pub runs : AreRunsOf s (row_parts z row.numbers.items) row.places.items

-- so it is by the numbers of these parts
abbrev pub IsRowAmong : {A : Type 0} → Parts A → Shape → Process → SplitRow A → Type 0
IsRowAmong k s t row = (z : Numbering) → NumbersAll k z → IsTakenApart z (length (processes_of k)) s t row

-- the numbers are the places of these parts among all
abbrev pub AreNumbersOf : List Process → List Process → List PartId → Type 0
AreNumbersOf all [] [] = ⊤
AreNumbersOf all (p ∷ parts) (n ∷ numbers) = (slice_get all n.0 ≡ Some p) × AreNumbersOf all parts numbers
AreNumbersOf all _ _ = ⊥
