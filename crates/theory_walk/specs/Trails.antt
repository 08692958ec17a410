-- The way from the start to where a walk is.
use Rattle.std.specs.Prelude.{⊤, ◌-◌, List, [], ◌∷◌, ◌++◌, length, map, take, Option}
use Rattle.theory_syntax.specs.Process.{Process, Script}
use Rattle.theory_semantics.specs.Meaning.Transitions.{Step}
use Rattle.theory_origins.specs.Origin.{Origin}
use Rattle.theory_origins.specs.Telling.{Tells}
use Rattle.theory_explanation.specs.PartNames.{PartName, names_along}
use Rattle.theory_walk.specs.Moves.{Move}

-- a state, and the moves that were taken from there, one behind the other
pub record Trail : Type 0 where
  pub start : Process
  pub taken : List Move

abbrev pub begun : Process → Trail
begun start = record { start = start; taken = [] }

-- the state that moves lead to
abbrev pub behind : Process → List Move → Process
behind t [] = t
behind t (m ∷ moves) = behind m.target moves

-- where the walk is
abbrev pub here : Trail → Process
here trail = behind trail.start trail.taken

-- with one move more, and without the last one
abbrev pub further : Trail → Move → Trail
further trail m = record { start = trail.start; taken = trail.taken ++ m ∷ [] }

abbrev pub back : Trail → Trail
back trail = record { start = trail.start; taken = take (length trail.taken - 1) trail.taken }

-- each move is a step of the state that it was taken from, and comes from there
abbrev pub AreTaken : Script → Process → List Move → Type 0
AreTaken script t [] = ⊤
AreTaken script t (m ∷ moves) = Step script t m.action m.target × Tells script t m.action m.target m.origin × AreTaken script m.target moves

-- where the moves come from, and the names that parts have by these
abbrev pub origins : Trail → List (Option Origin)
origins trail = map (λ m. m.origin) trail.taken

abbrev pub part_names : Trail → List PartName
part_names trail = names_along [] (origins trail)
