-- The bytes of a shape round its holes, and what is spelled with the spellings of parts between them.
use Rattle.std.specs.Prelude.{ℕ, suc, ◌+◌, List, [], ◌∷◌, ◌++◌, length, map, take}
use Rattle.theory_syntax.specs.Process.{Process}
use Rattle.theory_spelling.specs.Spelling.{event_set_spelling, list_spelling, pair_spelling, spelling}
use Rattle.theory_shapes.specs.Shape.{Composition, Interleaved, Generalised, Alphabetised, Frame, Hidden, Renamed, Shape, Hole, Composed, Framed, part_at}
use Rattle.theory_shapes.specs.Changes.{Change}
use Rattle.theory_shapes.specs.Edits.{Edit}

abbrev pub composition_tag : Composition → ℕ
composition_tag Interleaved = 0x0b
composition_tag (Generalised a) = 0x0d
composition_tag (Alphabetised a b) = 0x0e

abbrev pub frame_tag : Frame → ℕ
frame_tag (Hidden a) = 0x0f
frame_tag (Renamed rs) = 0x10

-- what is spelled between two sides
abbrev pub between_sides : Composition → List ℕ
between_sides Interleaved = []
between_sides (Generalised a) = event_set_spelling a
between_sides (Alphabetised a b) = event_set_spelling a ++ event_set_spelling b

-- what is spelled behind the process in a frame
abbrev pub behind_body : Frame → List ℕ
behind_body (Hidden a) = event_set_spelling a
behind_body (Renamed rs) = list_spelling pair_spelling rs

-- the bytes before the first hole
abbrev pub first_piece : Shape → List ℕ
first_piece Hole = []
first_piece (Composed c l r) = composition_tag c ∷ first_piece l
first_piece (Framed f s) = frame_tag f ∷ first_piece s

-- the bytes behind each hole up to the next one, where these come behind the shape
abbrev pub later_pieces : Shape → List ℕ → List (List ℕ)
later_pieces Hole rest = rest ∷ []
later_pieces (Composed c l r) rest = later_pieces l (between_sides c ++ first_piece r) ++ later_pieces r rest
later_pieces (Framed f s) rest = later_pieces s (behind_body f ++ rest)

-- the bytes before, between and behind the holes
abbrev pub pieces : Shape → List (List ℕ)
pieces s = first_piece s ∷ later_pieces s []

-- the runs, from that of this number on, with a piece behind each
abbrev pub runs_with : ℕ → List (List ℕ) → (ℕ → List ℕ) → List ℕ
runs_with n [] run = []
runs_with n (piece ∷ more) run = run n ++ (piece ++ runs_with (suc n) more run)

-- the pieces in turn, with a run between each two, the first being that of this number
abbrev pub in_turn : ℕ → List (List ℕ) → (ℕ → List ℕ) → List ℕ
in_turn n [] run = []
in_turn n (piece ∷ more) run = piece ++ runs_with n more run

-- the run of each hole is the spelling of its part
abbrev pub part_run : List Process → ℕ → List ℕ
part_run parts i = spelling (part_at parts i)

-- the bytes before a hole
abbrev pub before_hole : Shape → List Process → ℕ → List ℕ
before_hole s parts i = in_turn 0 (take (suc i) (pieces s)) (part_run parts)

-- where a hole's run begins in what is spelled, and where it ends
abbrev pub run_start : Shape → List Process → ℕ → ℕ
run_start s parts i = length (before_hole s parts i)

abbrev pub run_end : Shape → List Process → ℕ → ℕ
run_end s parts i = run_start s parts i + length (part_run parts i)

-- The spelling of each change takes the place of its hole's run.
abbrev pub change_edits : Shape → List Process → List Change → List Edit
change_edits s parts cs = map (λ c. record { start = run_start s parts c.hole; end = run_end s parts c.hole; bytes = spelling c.part }) cs
