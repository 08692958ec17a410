-- Walks: what lines of input give, one behind the other.
use Rattle.std.specs.Prelude.{◌≡◌, ℕ, List, [], ◌∷◌, ◌++◌, Option, Some, None}
use Rattle.theory_syntax.specs.Process.{Process, Script}
use Rattle.theory_notation.specs.Names.{Names}
use Rattle.theory_explanation.specs.Cutting.{Width}
use Rattle.theory_walk.specs.Answers.{Answer, Shows, Says, Ends, answer}
use Rattle.theory_walk.specs.Commands.{command_of}
use Rattle.theory_walk.specs.Moves.{Menu, IsMenu, moves_in}
use Rattle.theory_walk.specs.Trails.{Trail, begun, here}
use Rattle.theory_walk.specs.Views.{view_text}

-- where a walk is: the trail to there, and what the state there offers
pub record Place : Type 0 where
  pub trail : Trail
  pub menu : Menu

abbrev pub shown : Names → Width → Place → List ℕ
shown names width p = view_text names width p.trail p.menu

-- the place at the end of the trail
pub record IsPlace (script : Script) (trail : Trail) (p : Place) : Type 0 where
  pub there : p.trail ≡ trail
  pub menu : IsMenu script (here trail) p.menu

-- the text that an answer gives at a place, and the place behind it, if the walk goes on
abbrev pub IsGiven : Script → Names → Width → Place → Answer → List ℕ → Option Place → Type 0
IsGiven script names width p (Shows trail) text next = (q : Place) × IsPlace script trail q × (text ≡ shown names width q) × (next ≡ Some q)
IsGiven script names width p (Says words) text next = (text ≡ words) × (next ≡ Some p)
IsGiven script names width p Ends text next = (text ≡ []) × (next ≡ None)

-- the answer to a line
abbrev pub answer_to : Names → Place → List ℕ → Answer
answer_to names p line = answer names p.trail (moves_in p.menu) (command_of line)

-- The text that lines give from a place on, and the place behind them. Once the walk has ended no line is taken.
abbrev pub LeadTo : Script → Names → Width → Option Place → List (List ℕ) → List ℕ → Option Place → Type 0
LeadTo script names width from [] text next = (text ≡ []) × (next ≡ from)
LeadTo script names width None (line ∷ lines) text next = ⊥
LeadTo script names width (Some p) (line ∷ lines) text next =
    (mid : Option Place) × (first rest : List ℕ) × (text ≡ first ++ rest) × IsGiven script names width p (answer_to names p line) first mid ×
    LeadTo script names width mid lines rest next

-- The text that a walk from the term gives by these lines: the start is shown, and behind it stands what each line gives. The
-- place behind them is told, if the walk goes on there.
pub record IsWalk (script : Script) (names : Names) (width : Width) (start : Process) (lines : List (List ℕ)) (text : List ℕ) (next : Option Place) : Type 0 where
  pub first : Place
  pub begins : IsPlace script (begun start) first
  pub rest : List ℕ
  pub goes : LeadTo script names width (Some first) lines rest next
  pub told : text ≡ shown names width first ++ rest
