-- What is answered to a command.
use Rattle.std.specs.Prelude.{ℕ, suc, if◌then◌else◌, List, [], ◌∷◌, codes, decimal, Option, Some, None}
use Rattle.std.specs.List.{filter}
use Rattle.theory_notation.specs.Names.{Names}
use Rattle.theory_explanation.specs.Actions.{action_text}
use Rattle.theory_walk.specs.Commands.{Command, Back, End, Again, Take, same}
use Rattle.theory_walk.specs.Moves.{Move}
use Rattle.theory_walk.specs.Trails.{Trail, back, further}

-- that the state at the end of the trail is shown, a text, or that the walk ends
pub data Answer : Type 0 where
  Shows : (trail : Trail) → Answer
  Says : (text : List ℕ) → Answer
  Ends : Answer

-- ---- the moves that a text names

-- the one whose number it is, where they are numbered from n
abbrev pub numbered : ℕ → List Move → List ℕ → Option Move
numbered n [] text = None
numbered n (m ∷ moves) text = if same text (decimal n) then Some m else numbered (suc n) moves text

-- those that do what it says
abbrev pub doing : Names → List Move → List ℕ → List Move
doing names moves text = filter (λ m. same text (action_text names m.action)) moves

-- A number comes before what is done.
abbrev pub first_of : Option Move → List Move → List Move
first_of (Some m) others = m ∷ []
first_of None others = others

abbrev pub named : Names → List Move → List ℕ → List Move
named names moves text = first_of (numbered 1 moves text) (doing names moves text)

-- ---- answers

-- by the moves that are named: one alone is taken
abbrev pub answer_by : Trail → List Move → Answer
answer_by trail [] = Says (codes "no such step: a number, the text of an event, u or q\n")
answer_by trail (m ∷ []) = Shows (further trail m)
answer_by trail (m ∷ other ∷ moves) = Says (codes "several steps do that: take one by its number\n")

-- to go back, where these moves were taken
abbrev pub going_back : Trail → List Move → Answer
going_back trail [] = Says (codes "this is the start\n")
going_back trail (m ∷ moves) = Shows (back trail)

-- at the end of a trail, where the state has these moves
abbrev pub answer : Names → Trail → List Move → Command → Answer
answer names trail moves Back = going_back trail trail.taken
answer names trail moves End = Ends
answer names trail moves Again = Shows trail
answer names trail moves (Take text) = answer_by trail (named names moves text)
