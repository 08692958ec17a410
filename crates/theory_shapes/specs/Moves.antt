-- What a step makes of a term, told along its shape.
use Rattle.std.specs.Prelude.{ℕ, ◌+◌, get_or, take, drop, List, [], ◌∷◌, map, Option, Some, None, ◌++◌}
use Rattle.theory_syntax.specs.Process.{Process, Omega, Script}
use Rattle.theory_semantics.specs.Meaning.Stepping.{Steps, both_ended}
use Rattle.theory_shapes.specs.Shape.{compose, enframe, Shape, Hole, Composed, Framed, holes, fill_from}
use Rattle.theory_shapes.specs.Changes.{Change}
use Rattle.theory_shapes.specs.Combining.{StepsTo, Sides, composed_steps, framed_steps}

-- It rests, it becomes another process, its two sides move, or the process in its frame does.
pub data Move : Type 0 where
  Rests : Move
  Becomes : (process : Process) → Move
  Both : (left right : Move) → Move
  Inside : (move : Move) → Move

-- what a move makes of a shape with parts in its holes, of which the first is that of this number
abbrev pub moved_from : Move → ℕ → Shape → List Process → Process
moved_from Rests n s parts = fill_from n s parts
moved_from (Becomes p) n s parts = p
moved_from (Both d e) n (Composed c l r) parts = compose c (moved_from d n l parts) (moved_from e (n + holes l) r parts)
moved_from (Inside d) n (Framed f s) parts = enframe f (moved_from d n s parts)
moved_from d n s parts = fill_from n s parts

-- the steps that are known of the part in a hole
abbrev pub steps_at : List Steps → ℕ → Steps
steps_at known n = get_or known n []

-- the steps of a part, as moves
abbrev pub part_moves : Steps → StepsTo Move
part_moves ss = map (λ s. (s.0, Becomes s.1)) ss

-- the moves of two sides
abbrev pub moving_sides : Sides Move
moving_sides = record { on_left = λ d. Both d Rests; on_right = λ e. Both Rests e; together = Both; left_ended = Both (Becomes Omega) Rests; right_ended = Both Rests (Becomes Omega) }

-- All steps of a shape with parts in its holes, by what is known of each part.
abbrev pub moves_from : Script → ℕ → Shape → List Process → List Steps → StepsTo Move
moves_from script n Hole parts known = part_moves (steps_at known n)
moves_from script n (Composed c l r) parts known =
    composed_steps script c moving_sides (moves_from script n l parts known) (moves_from script (n + holes l) r parts known) (part_moves (both_ended (fill_from n l parts) (fill_from (n + holes l) r parts)))
moves_from script n (Framed f s) parts known = framed_steps script f Inside (Becomes Omega) (moves_from script n s parts known)

-- ---- as changes of parts

abbrev pub both_changes : Option (List Change) → Option (List Change) → Option (List Change)
both_changes (Some cs) (Some ds) = Some (cs ++ ds)
both_changes (Some cs) None = None
both_changes None o = None

-- the changes that a move is, if it leaves the shape as it is
abbrev pub changes_from : Move → ℕ → Shape → Option (List Change)
changes_from Rests n s = Some []
changes_from (Becomes p) n Hole = Some (record { hole = n; part = p } ∷ [])
changes_from (Both d e) n (Composed c l r) = both_changes (changes_from d n l) (changes_from e (n + holes l) r)
changes_from (Inside d) n (Framed f s) = changes_from d n s
changes_from d n s = None

-- ---- as another shape with other parts

abbrev pub shape_after : Move → Shape → Shape
shape_after Rests s = s
shape_after (Becomes p) s = Hole
shape_after (Both d e) (Composed c l r) = Composed c (shape_after d l) (shape_after e r)
shape_after (Inside d) (Framed f s) = Framed f (shape_after d s)
shape_after d s = s

-- the parts in its holes, of those that the shape had
abbrev pub parts_after : Move → Shape → List Process → List Process
parts_after Rests s parts = parts
parts_after (Becomes p) s parts = p ∷ []
parts_after (Both d e) (Composed c l r) parts = parts_after d l (take (holes l) parts) ++ parts_after e r (drop (holes l) parts)
parts_after (Inside d) (Framed f s) parts = parts_after d s parts
parts_after d s parts = parts
