-- What takes the places of others in a shape with parts in its holes: parts, or sides and frames as a whole.
use Rattle.std.specs.Prelude.{ℕ, suc, ◌+◌, ◌-◌, ◌&&◌, cond, nat_eq, List, [], ◌∷◌, ◌++◌, drop, map, take, Option, Some, None}
use Rattle.theory_syntax.specs.Process.{Process}
use Rattle.theory_shapes.specs.Shape.{Shape, Hole, Composed, Framed, holes}
use Rattle.theory_shapes.specs.Parts.{parts_of, shape_of}
use Rattle.theory_shapes.specs.Moves.{Move, Rests, Becomes, Both, Inside}

-- It takes the place of what stands under so many operators, and whose holes are those from this number on and before that
-- one.
pub record Graft (X : Type 0) : Type 0 where
  pub from : ℕ
  pub to : ℕ
  pub above : ℕ
  pub new : X

abbrev pub graft_of : {X Y : Type 0} → (X → Y) → Graft X → Graft Y
graft_of f g = record { from = g.from; to = g.to; above = g.above; new = f g.new }

abbrev pub grafts_of : {X Y : Type 0} → (X → Y) → List (Graft X) → List (Graft Y)
grafts_of f gs = map (graft_of f) gs

-- it takes the place of a whole shape, whose first hole is that of this number, under so many operators
abbrev pub whole : {X : Type 0} → ℕ → ℕ → Shape → X → List (Graft X)
whole n k s x = record { from = n; to = n + holes s; above = k; new = x } ∷ []

-- ---- what they make of the parts

-- the parts from a place on, with those of each graft in the places of others, from left to right
abbrev pub spliced : {X Y : Type 0} → (X → List Y) → List Y → ℕ → List (Graft X) → List Y
spliced items ys place [] = drop place ys
spliced items ys place (g ∷ gs) = take (g.from - place) (drop place ys) ++ (items g.new ++ spliced items ys g.to gs)

-- ---- and of the shape

-- what takes the place of what begins with this hole, under so many operators, if anything does
abbrev pub graft_at : {X : Type 0} → ℕ → ℕ → List (Graft X) → Option X
graft_at n k [] = None
graft_at n k (g ∷ gs) = cond (nat_eq n g.from && nat_eq k g.above) (Some g.new) (graft_at n k gs)

abbrev pub grafted_or : {X : Type 0} → (X → Shape) → Option X → Shape → Shape
grafted_or shape (Some x) s = shape x
grafted_or shape None s = s

-- the shape, whose first hole is that of this number and which stands under so many operators, with the shapes of the grafts
-- in their places
abbrev pub grafted : {X : Type 0} → (X → Shape) → ℕ → ℕ → Shape → List (Graft X) → Shape
grafted shape n k Hole gs = grafted_or shape (graft_at n k gs) Hole
grafted shape n k (Composed c l r) gs = grafted_or shape (graft_at n k gs) (Composed c (grafted shape n (suc k) l gs) (grafted shape (n + holes l) (suc k) r gs))
grafted shape n k (Framed f s) gs = grafted_or shape (graft_at n k gs) (Framed f (grafted shape n (suc k) s gs))

-- ---- moves

-- what a move puts in the place of others
abbrev pub grafts_from : Move → ℕ → ℕ → Shape → List (Graft Process)
grafts_from Rests n k s = []
grafts_from (Becomes p) n k s = whole n k s p
grafts_from (Both d e) n k (Composed c l r) = grafts_from d n (suc k) l ++ grafts_from e (n + holes l) (suc k) r
grafts_from (Inside d) n k (Framed f s) = grafts_from d n (suc k) s
grafts_from d n k s = []

-- The shape and the parts of what a move leads to, where what comes in is taken apart too.
abbrev pub shape_to : Move → Shape → Shape
shape_to Rests s = s
shape_to (Becomes p) s = shape_of p
shape_to (Both d e) (Composed c l r) = Composed c (shape_to d l) (shape_to e r)
shape_to (Inside d) (Framed f s) = Framed f (shape_to d s)
shape_to d s = s

abbrev pub parts_to : Move → Shape → List Process → List Process
parts_to Rests s parts = parts
parts_to (Becomes p) s parts = parts_of p
parts_to (Both d e) (Composed c l r) parts = parts_to d l (take (holes l) parts) ++ parts_to e r (drop (holes l) parts)
parts_to (Inside d) (Framed f s) parts = parts_to d s parts
parts_to d s parts = parts

-- the same by grafts
abbrev pub shape_by : Shape → List (Graft Process) → Shape
shape_by s gs = grafted shape_of 0 0 s gs

abbrev pub parts_by : List Process → List (Graft Process) → List Process
parts_by parts gs = spliced parts_of parts 0 gs
