-- A term taken apart, into its shape and its parts.
use Rattle.std.specs.Prelude.{◌≡◌, List, [], ◌∷◌, ◌++◌}
use Rattle.theory_syntax.specs.Process.{Process, Interleaving, GeneralisedParallel, AlphabetisedParallel, Hiding, Renaming}
use Rattle.theory_shapes.specs.Shape.{Interleaved, Generalised, Alphabetised, Hidden, Renamed, Shape, Hole, Composed, Framed}

-- the operators that stand at the head of a term
abbrev pub shape_of : Process → Shape
shape_of (Interleaving p q) = Composed Interleaved (shape_of p) (shape_of q)
shape_of (GeneralisedParallel p a q) = Composed (Generalised a) (shape_of p) (shape_of q)
shape_of (AlphabetisedParallel p a b q) = Composed (Alphabetised a b) (shape_of p) (shape_of q)
shape_of (Hiding p a) = Framed (Hidden a) (shape_of p)
shape_of (Renaming p rs) = Framed (Renamed rs) (shape_of p)
shape_of p = Hole

-- what stands below them, from the left
abbrev pub parts_of : Process → List Process
parts_of (Interleaving p q) = parts_of p ++ parts_of q
parts_of (GeneralisedParallel p a q) = parts_of p ++ parts_of q
parts_of (AlphabetisedParallel p a b q) = parts_of p ++ parts_of q
parts_of (Hiding p a) = parts_of p
parts_of (Renaming p rs) = parts_of p
parts_of p = p ∷ []

-- no operator that stays is at its head
abbrev pub IsPart : Process → Type 0
IsPart p = shape_of p ≡ Hole
