-- Bytes split into the parts that stand between pieces.
use Rattle.std.specs.Prelude.{◌≡◌, ◌<◌, ◌+◌, Contains, ℕ, suc, List, [], ◌++◌, get_or, length, take, slice_get, Option, Some, None}
use Rattle.std.specs.List.{AllByRecursion}
use Rattle.theory_spelling.specs.Reading.{term_of}
use Rattle.theory_spelling.specs.Spelling.{spelling}
use Rattle.theory_shapes.specs.Pieces.{in_turn}
use Rattle.theory_shapes.specs.Shape.{Shape, fill, holes}
use Rattle.csp_rows.specs.declared.numbers.PartId.{PartId}
use Rattle.csp_rows.specs.declared.part.Part.{Part}
use Rattle.csp_rows.specs.declared.places.Place.{Place}
use Rattle.csp_rows.specs.Numbering.{Numbering}
use Rattle.csp_rows.specs.Places.{AreRunsOf, AreSpelled, place_at}
use Rattle.csp_rows.specs.Rows.{row_parts, spelling_at}
use Rattle.csp_rows.specs.ByParts.{AreSpellable}
use Rattle.csp_rows.specs.declared.splitting.FrontRun.{FrontRun}
use Rattle.csp_rows.specs.declared.splitting.SplitRow.{SplitRow}

-- ---- the part at the front

-- the part is spelled at the front of the bytes, and these are behind it
abbrev pub IsInFront : {A : Type 0} → List (Part A) → List ℕ → PartId → List ℕ → Type 0
IsInFront parts bytes n behind = (n.0 < length parts) × (bytes ≡ spelling_at parts n.0 ++ behind)

abbrev pub IsNotInFront : {A : Type 0} → List (Part A) → List ℕ → PartId → Type 0
IsNotInFront parts bytes n = (behind : List ℕ) → IsInFront parts bytes n behind → ⊥

-- one of those that are tried is, or none
abbrev pub IsRunAtFront : {A : Type 0} → List ℕ → List PartId → List (Part A) → Option FrontRun → Type 0
IsRunAtFront bytes tried parts (Some run) = Contains tried run.number × IsInFront parts bytes run.number run.behind.now
IsRunAtFront bytes tried parts None = AllByRecursion (IsNotInFront parts bytes) tried

-- ---- all parts

abbrev pub spelling_of_number : {A : Type 0} → List (Part A) → Option PartId → List ℕ
spelling_of_number parts None = []
spelling_of_number parts (Some n) = spelling_at parts n.0

-- the run of each hole is the spelling of the part of its number
abbrev pub number_run : {A : Type 0} → List (Part A) → List PartId → ℕ → List ℕ
number_run parts numbers hole = spelling_of_number parts (slice_get numbers hole)

-- the bytes are the pieces, with the spellings of these parts between them, and the rest
pub record AreSpelledBetween {A : Type 0} (parts : List (Part A)) (bytes : List ℕ) (pieces : List (List ℕ)) (numbers : List PartId) (rest : List ℕ) : Type 0 where
  pub among : AllByRecursion (λ n. n.0 < length parts) numbers
  pub count : length pieces ≡ suc (length numbers)
  pub spelled : bytes ≡ in_turn 0 pieces (number_run parts numbers) ++ rest

-- the place is that of the run of a hole
pub record IsPlaceOf {A : Type 0} (parts : List (Part A)) (pieces : List (List ℕ)) (numbers : List PartId) (hole : ℕ) (place : Place) : Type 0 where
  pub start : place.start ≡ length (in_turn 0 (take (suc hole) pieces) (number_run parts numbers))
  pub end : place.end ≡ place.start + length (number_run parts numbers hole)

-- and each place is that of its part
pub record IsSplitUpTo {A : Type 0} (parts : List (Part A)) (bytes : List ℕ) (pieces : List (List ℕ)) (numbers : List PartId) (places : List Place) (rest : List ℕ) : Type 0 where
  pub between : AreSpelledBetween parts bytes pieces numbers rest
  pub one_each : length places ≡ length numbers
  pub placed : (hole : ℕ) → hole < length numbers → IsPlaceOf parts pieces numbers hole (place_at places hole)

-- all bytes are split so
abbrev pub IsSplit : {A : Type 0} → List (Part A) → List ℕ → List (List ℕ) → List PartId → List Place → Type 0
IsSplit parts bytes pieces numbers places = IsSplitUpTo parts bytes pieces numbers places []

-- ---- what is tried

-- the part in each hole is one of those that are tried there
abbrev pub AreTried : List (List PartId) → List PartId → Type 0
AreTried tried numbers = (hole : ℕ) (n : PartId) → slice_get numbers hole ≡ Some n → Contains (get_or tried hole []) n

-- no parts that are tried are spelled so, if the parts are spellable
abbrev pub IsNoneSplit : {A : Type 0} → List (Part A) → List ℕ → List (List ℕ) → List (List PartId) → Type 0
IsNoneSplit parts bytes pieces tried =
    (z : Numbering) (numbers : List PartId) → AreSpelled z parts → AreSpellable z (length parts) → AreTried tried numbers → AreSpelledBetween parts bytes pieces numbers [] → ⊥

abbrev pub IsSplitAnswer : {A : Type 0} → List (Part A) → List ℕ → List (List ℕ) → List (List PartId) → Option (SplitRow A) → Type 0
IsSplitAnswer parts bytes pieces tried (Some row) = IsSplit parts bytes pieces row.numbers.items row.places.items × AreTried tried row.numbers.items
IsSplitAnswer parts bytes pieces tried None = IsNoneSplit parts bytes pieces tried

-- ---- what is split so

-- The bytes spell a shape with these parts in its holes, each at its place, and that term is read of them.
pub record IsTermByParts (z : Numbering) (s : Shape) (bytes : List ℕ) (numbers : List PartId) (places : List Place) : Type 0 where
  pub filled : length numbers ≡ holes s
  pub spelled : bytes ≡ spelling (fill s (row_parts z numbers))
  pub read : term_of bytes ≡ Some (fill s (row_parts z numbers))
  pub runs : AreRunsOf s (row_parts z numbers) places
