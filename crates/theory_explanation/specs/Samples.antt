-- Actions, origins and a style for the samples of texts, over the names of the notation's samples: the event `c.n`.
use Rattle.std.specs.Prelude.{ℕ, true, List, [], ◌∷◌, pos, Option, Some}
use Rattle.theory_syntax.specs.Value.{Action, Ev, Event, Integer, Truth}
use Rattle.theory_syntax.specs.Expression.{Apply, Literal, Not}
use Rattle.theory_syntax.specs.Process.{Given, Guard, Prefix, Process, Stop}
use Rattle.theory_origins.specs.Origin.{Below, Does, Left, OnSide, Origin, Right, Side, Together, Unfolds}
use Rattle.theory_notation.specs.Samples.{names}
use Rattle.theory_explanation.specs.Cutting.{UpTo, Whole}
use Rattle.theory_explanation.specs.Folding.{EachStep, Telling}
use Rattle.theory_explanation.specs.Legend.{Legend, legend}
use Rattle.theory_explanation.specs.Styles.{Style}

abbrev pub event : ℕ → Event
event n = record { channel = 0; fields = Integer (pos n) ∷ [] }

abbrev pub c : ℕ → Action
c n = Ev (event n)

-- `c!2 -> STOP`
abbrev pub c_two : Process
c_two = Prefix 0 (Given (Literal (Integer (pos 2))) ∷ []) Stop

-- `not true & STOP`
abbrev pub not_true : Process
not_true = Guard (Apply Not (Literal (Truth true))) Stop

-- a part of this side moves
abbrev pub below : Side → Origin → Origin
below side part = Below (OnSide side) part

-- parts without names, and the right side and the left side of that, which are called P
abbrev pub unnamed : Legend
unnamed = legend names []

abbrev pub right_named : Legend
right_named = legend names (record { way = Right ∷ []; equation = 0 } ∷ record { way = Right ∷ Left ∷ []; equation = 0 } ∷ [])

-- states are told whole, one of a specification at a time, and two taus of a loop
abbrev pub told : Style
told = record { names = names; width = Whole; few = 1; most = 2; taus = UpTo 2; reach = 3; telling = EachStep }

-- the same, with another way to tell the steps
abbrev pub telling : Telling → Style
telling how = record { names = names; width = Whole; few = 1; most = 2; taus = UpTo 2; reach = 3; telling = how }

-- a step that unfolds a name, an event by the left side, and two steps that unfold
abbrev pub unfolded_run : List (Option Origin)
unfolded_run = Some (Unfolds 0) ∷ Some (below Left (Does (event 1))) ∷ Some (Below (OnSide Left) (Unfolds 0)) ∷ Some (Below (OnSide Right) (Unfolds 0)) ∷ []

-- the right side is unfolded, then both do an event, then the left side is unfolded, and both do it again
abbrev pub named_run : List (Option Origin)
named_run =
    Some (below Right (Unfolds 0)) ∷ Some (Together (Does (event 1)) (Does (event 1))) ∷ Some (below Left (Unfolds 0)) ∷ Some (Together (Does (event 1)) (Does (event 1))) ∷ []
