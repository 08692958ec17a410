-- Shapes: the operators of a term that stay whatever its parts do, round holes for the parts.
use Rattle.std.specs.Prelude.{ℕ, ◌+◌, List, get_or}
use Rattle.theory_syntax.specs.Process.{EventSet, RenamingPair, Process, Stop, Interleaving, GeneralisedParallel, AlphabetisedParallel, Hiding, Renaming}

-- what puts two processes side by side
pub data Composition : Type 0 where
  Interleaved : Composition
  Generalised : (shared : EventSet) → Composition
  Alphabetised : (left_events right_events : EventSet) → Composition

-- what stands round one process
pub data Frame : Type 0 where
  Hidden : (hidden : EventSet) → Frame
  Renamed : (pairs : List RenamingPair) → Frame

-- Its holes are numbered from the left, from zero.
pub data Shape : Type 0 where
  Hole : Shape
  Composed : (composition : Composition) (left right : Shape) → Shape
  Framed : (frame : Frame) (body : Shape) → Shape

abbrev pub compose : Composition → Process → Process → Process
compose Interleaved p q = Interleaving p q
compose (Generalised a) p q = GeneralisedParallel p a q
compose (Alphabetised a b) p q = AlphabetisedParallel p a b q

abbrev pub enframe : Frame → Process → Process
enframe (Hidden a) p = Hiding p a
enframe (Renamed rs) p = Renaming p rs

-- how many holes there are
abbrev pub holes : Shape → ℕ
holes Hole = 1
holes (Composed c l r) = holes l + holes r
holes (Framed f s) = holes s

-- what fills a hole: a hole without a part is filled with STOP
abbrev pub part_at : List Process → ℕ → Process
part_at parts i = get_or parts i Stop

-- the shape with parts in its holes, of which the first is that of this number
abbrev pub fill_from : ℕ → Shape → List Process → Process
fill_from n Hole parts = part_at parts n
fill_from n (Composed c l r) parts = compose c (fill_from n l parts) (fill_from (n + holes l) r parts)
fill_from n (Framed f s) parts = enframe f (fill_from n s parts)

-- the term that a shape is with parts in its holes, from the left
abbrev pub fill : Shape → List Process → Process
fill s parts = fill_from 0 s parts
