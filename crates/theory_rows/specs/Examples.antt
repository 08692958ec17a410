-- Small tables and rows, for the laws.
use Rattle.std.specs.Prelude.{ℕ, zero, suc, Bool, true, false, List, [], ◌∷◌}
use Rattle.theory_syntax.specs.Value.{Tick}
use Rattle.theory_syntax.specs.Process.{Enumeration, Omega, Skip, Stop}
use Rattle.theory_semantics.specs.Laws.Terms.{letters}
use Rattle.theory_shapes.specs.Combining.{StepsTo}
use Rattle.theory_shapes.specs.Shape.{Composed, Framed, Hidden, Hole, Interleaved}
use Rattle.csp_rows.specs.declared.numbers.PartId.{PartId}
use Rattle.theory_rows.specs.Tables.{Row, Tables}
use Rattle.theory_rows.specs.Grafts.{Graft}
use Rattle.theory_rows.specs.Targets.{Known, row_steps}

-- a hole, two side by side, and two with a frame round the first; what has ended, `SKIP` and `STOP`
abbrev pub small_tables : Tables
small_tables = record { shapes = Hole ∷ Composed Interleaved Hole Hole ∷ Composed Interleaved (Framed (Hidden (Enumeration [])) Hole) Hole ∷ []; parts = Omega ∷ Skip ∷ Stop ∷ [] }

abbrev pub id : ℕ → PartId
id n = record { 0 = n }

-- one part alone
abbrev pub part_row : ℕ → Row
part_row n = record { shape = 0; parts = id n ∷ [] }

-- two parts in the holes of a shape
abbrev pub two_row : ℕ → ℕ → ℕ → Row
two_row shape n m = record { shape = shape; parts = id n ∷ id m ∷ [] }

-- what is known of the parts of these numbers: `SKIP` ends
abbrev pub steps_of_part : ℕ → StepsTo Row
steps_of_part (suc zero) = (Tick, part_row 0) ∷ []
steps_of_part n = []

abbrev pub is_first : ℕ → Bool
is_first zero = true
is_first n = false

abbrev pub in_hole : ℕ → ℕ → ℕ → ℕ
in_hole n m zero = n
in_hole n m i = m

abbrev pub known_of_two : ℕ → ℕ → Known
known_of_two n m = record { over = part_row 0; steps = λ i. steps_of_part (in_hole n m i); ended = λ i. is_first (in_hole n m i) }

-- the steps of a row of two parts
abbrev pub small_steps : ℕ → ℕ → ℕ → StepsTo (List (Graft Row))
small_steps shape n m = row_steps (letters []) small_tables (two_row shape n m) (known_of_two n m)

-- one graft
abbrev pub one_graft : ℕ → ℕ → ℕ → Row → List (Graft Row)
one_graft from to above new = record { from = from; to = to; above = above; new = new } ∷ []
