-- All steps of a shape with parts in its holes, each with what takes the places of others.
use Rattle.std.specs.Prelude.{ℕ, suc, ◌+◌, ◌++◌, ◌&&◌, Bool, true, false, cond, List, [], ◌∷◌, map}
use Rattle.theory_syntax.specs.Value.{Tick}
use Rattle.theory_syntax.specs.Process.{Process, Omega, Script}
use Rattle.theory_semantics.specs.Meaning.Stepping.{Steps}
use Rattle.theory_shapes.specs.Shape.{Shape, Hole, Composed, Framed, fill, holes, part_at}
use Rattle.theory_shapes.specs.Combining.{StepsTo, Sides, composed_steps, framed_steps}
use Rattle.theory_shapes.specs.Moves.{steps_at}
use Rattle.theory_rows.specs.Grafts.{Graft, parts_by, shape_by, whole}

abbrev pub is_hole : Shape → Bool
is_hole Hole = true
is_hole (Composed c l r) = false
is_hole (Framed f s) = false

-- the tick of two sides that are both parts and have both ended
abbrev pub both_end : {X : Type 0} → Bool → List (Graft X) → StepsTo (List (Graft X))
both_end ended gs = cond ended ((Tick, gs) ∷ []) []

-- what the targets of the two sides make, where the first hole is that of this number and so many operators stand above
abbrev pub grafting_sides : {X : Type 0} → X → ℕ → ℕ → Shape → Shape → Sides (List (Graft X))
grafting_sides over n k l r = record {
  on_left = λ gs. gs;
  on_right = λ gs. gs;
  together = λ gs hs. gs ++ hs;
  left_ended = whole n (suc k) l over;
  right_ended = whole (n + holes l) (suc k) r over;
}

-- The steps, by what a process that has ended is, by the steps of the part in each hole, and by whether it has ended.
abbrev pub steps_by : {X : Type 0} → Script → X → (ℕ → StepsTo X) → (ℕ → Bool) → ℕ → ℕ → Shape → StepsTo (List (Graft X))
steps_by script over known ended n k Hole = map (λ s. (s.0, whole n k Hole s.1)) (known n)
steps_by script over known ended n k (Composed c l r) =
    composed_steps script c (grafting_sides over n k l r) (steps_by script over known ended n (suc k) l) (steps_by script over known ended (n + holes l) (suc k) r)
    (both_end (is_hole l && is_hole r && ended n && ended (n + holes l)) (whole n k (Composed c l r) over))
steps_by script over known ended n k (Framed f s) =
    framed_steps script f (λ gs. gs) (whole n k (Framed f s) over) (steps_by script over known ended n (suc k) s)

-- whether a process has ended
abbrev pub has_ended : Process → Bool
has_ended Omega = true
has_ended p = false

-- the steps of a shape with processes in its holes, by what is known of each
abbrev pub graft_steps : Script → Shape → List Process → List Steps → StepsTo (List (Graft Process))
graft_steps script s parts known = steps_by script Omega (steps_at known) (λ i. has_ended (part_at parts i)) 0 0 s

-- what they lead to
abbrev pub led_to : Shape → List Process → StepsTo (List (Graft Process)) → Steps
led_to s parts gss = map (λ g. (g.0, fill (shape_by s g.1) (parts_by parts g.1))) gss
