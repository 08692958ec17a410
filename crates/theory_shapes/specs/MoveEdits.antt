-- What a move makes of the bytes of a term.
use Rattle.std.specs.Prelude.{ℕ, suc, ◌+◌, List, [], ◌∷◌, ◌++◌, length}
use Rattle.theory_syntax.specs.Process.{Process}
use Rattle.theory_spelling.specs.Spelling.{spelling}
use Rattle.theory_shapes.specs.Shape.{Shape, Composed, Framed, holes, fill_from}
use Rattle.theory_shapes.specs.Edits.{Edit}
use Rattle.theory_shapes.specs.Pieces.{between_sides}
use Rattle.theory_shapes.specs.Moves.{Move, Rests, Becomes, Both, Inside}

-- how many bytes spell the shape with its parts, of which the first is that of this number
abbrev pub spelled_length : ℕ → Shape → List Process → ℕ
spelled_length n s parts = length (spelling (fill_from n s parts))

-- the edits by a move, where the shape is spelled from a place on
abbrev pub move_edits : Move → ℕ → ℕ → Shape → List Process → List Edit
move_edits Rests place n s parts = []
move_edits (Becomes p) place n s parts = record { start = place; end = place + spelled_length n s parts; bytes = spelling p } ∷ []
move_edits (Both d e) place n (Composed c l r) parts =
    move_edits d (suc place) n l parts ++ move_edits e (suc place + spelled_length n l parts + length (between_sides c)) (n + holes l) r parts
move_edits (Inside d) place n (Framed f s) parts = move_edits d (suc place) n s parts
move_edits d place n s parts = []
