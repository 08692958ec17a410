-- Where the parts of a row are spelled, and what changes make of its bytes.
use Rattle.std.specs.Prelude.{◌≡◌, ◌<◌, ◌≤◌, ℕ, List, [], ◌∷◌, get_or, length, map}
use Rattle.theory_syntax.specs.Process.{Process}
use Rattle.theory_spelling.specs.Spelling.{spelling}
use Rattle.theory_shapes.specs.Edits.{Edit}
use Rattle.theory_shapes.specs.Pieces.{run_end, run_start}
use Rattle.theory_shapes.specs.Changes.{RiseWithin, changed}
use Rattle.theory_shapes.specs.Shape.{Shape, fill, holes}
use Rattle.csp_rows.specs.declared.changes.Change.{Change}
use Rattle.csp_rows.specs.declared.part.Part.{Part}
use Rattle.csp_rows.specs.declared.places.Place.{Place}
use Rattle.csp_rows.specs.Numbering.{Numbering}
use Rattle.csp_rows.specs.Rows.{spelling_at}
use Rattle.csp_rows.specs.Runs.{AreAmong, changes_in}

abbrev pub place_at : List Place → ℕ → Place
place_at places hole = get_or places hole (record { start = 0; end = 0 })

-- the spelling of each new part takes the place of its hole
abbrev pub edit_of : {A : Type 0} → List Place → List (Part A) → Change → Edit
edit_of places parts c = record { start = (place_at places c.hole).start; end = (place_at places c.hole).end; bytes = spelling_at parts c.part.0 }

abbrev pub edits_of : {A : Type 0} → List Place → List (Part A) → List Change → List Edit
edits_of places parts cs = map (edit_of places parts) cs

-- edits that go from left to right, from a place on, up to another
abbrev pub RiseUpTo : ℕ → ℕ → List Edit → Type 0
RiseUpTo place n [] = place ≤ n
RiseUpTo place n (e ∷ es) = (place ≤ e.start) × (e.start ≤ e.end) × RiseUpTo e.end n es

-- the parts are spelled so
abbrev pub AreSpelled : {A : Type 0} → Numbering → List (Part A) → Type 0
AreSpelled z parts = (n : ℕ) → n < length parts → spelling_at parts n ≡ spelling (z.part n)

-- the place of each hole is that of its run
pub record IsRunAt (s : Shape) (ps : List Process) (hole : ℕ) (place : Place) : Type 0 where
  pub start : place.start ≡ run_start s ps hole
  pub end : place.end ≡ run_end s ps hole

abbrev pub AreRunsOf : Shape → List Process → List Place → Type 0
AreRunsOf s ps places = (hole : ℕ) → hole < holes s → IsRunAt s ps hole (place_at places hole)

-- The bytes spell a shape with parts in its holes, each at its place.
pub record IsRowOf {A : Type 0} (z : Numbering) (s : Shape) (ps : List Process) (bytes : List ℕ) (places : List Place) (parts : List (Part A)) : Type 0 where
  pub filled : length ps ≡ holes s
  pub spelled : bytes ≡ spelling (fill s ps)
  pub runs : AreRunsOf s ps places
  pub known : AreSpelled z parts

-- changes of parts that are known, each of a hole of the shape, from left to right
pub record AreChangesOf {A : Type 0} (z : Numbering) (s : Shape) (parts : List (Part A)) (cs : List Change) : Type 0 where
  pub rising : RiseWithin 0 (holes s) (changes_in z cs)
  pub known : AreAmong (length parts) cs

-- the bytes spell what the changes make of the row
abbrev pub IsTargetOf : {A : Type 0} → List ℕ → List Place → List Change → List (Part A) → List ℕ → Type 0
IsTargetOf bytes places cs parts target =
    (z : Numbering) (s : Shape) (ps : List Process) → IsRowOf z s ps bytes places parts → AreChangesOf z s parts cs → target ≡ spelling (fill s (changed (changes_in z cs) ps))
