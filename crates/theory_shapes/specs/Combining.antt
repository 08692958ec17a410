-- How the operators of a shape put the steps of their sides together, whatever it is that the steps lead to.
use Rattle.std.specs.Prelude.{Bool, not, ◌&&◌, cond, List, [], ◌∷◌, ◌++◌}
use Rattle.theory_syntax.specs.Value.{Action, Event, Tau, Tick, Ev, event_eq}
use Rattle.theory_syntax.specs.Process.{Script}
use Rattle.theory_semantics.specs.Meaning.Events.{has_event, images}
use Rattle.theory_semantics.specs.Meaning.Stepping.{always, never}
use Rattle.theory_shapes.specs.Shape.{Composition, Interleaved, Generalised, Alphabetised, Frame, Hidden, Renamed}

-- steps that lead to things of a type
abbrev pub StepsTo : Type 0 → Type 0
StepsTo X = List (Action × X)

-- what f makes of each step, in turn
abbrev pub each_to : {X : Type 0} → (Action → X → StepsTo X) → StepsTo X → StepsTo X
each_to f [] = []
each_to f (s ∷ ss) = f s.0 s.1 ++ each_to f ss

-- ---- two sides

-- the events that the left side does alone, that the right side does alone, and that they do together
abbrev pub is_left_free : Script → Composition → Event → Bool
is_left_free script Interleaved e = always e
is_left_free script (Generalised a) e = not (has_event script a e)
is_left_free script (Alphabetised a b) e = has_event script a e && not (has_event script b e)

abbrev pub is_right_free : Script → Composition → Event → Bool
is_right_free script Interleaved e = always e
is_right_free script (Generalised a) e = not (has_event script a e)
is_right_free script (Alphabetised a b) e = has_event script b e && not (has_event script a e)

abbrev pub is_shared : Script → Composition → Event → Bool
is_shared script Interleaved e = never e
is_shared script (Generalised a) e = has_event script a e
is_shared script (Alphabetised a b) e = has_event script a e && has_event script b e

-- What the two sides' targets make: that of the left side alone, of the right side alone, of both together, and of a side
-- that ends.
pub record Sides (X : Type 0) : Type 0 where
  pub on_left : X → X
  pub on_right : X → X
  pub together : X → X → X
  pub left_ended : X
  pub right_ended : X

-- what a side does alone: its tick is a tau, after which it has ended
abbrev pub alone : {X : Type 0} → (Event → Bool) → (X → X) → X → Action → X → StepsTo X
alone free under ended Tau t = (Tau, under t) ∷ []
alone free under ended Tick t = (Tau, ended) ∷ []
alone free under ended (Ev e) t = cond (free e) ((Ev e, under t) ∷ []) []

-- what two sides do together
abbrev pub jointly : {X : Type 0} → (Event → Bool) → (X → X → X) → Action → X → Action → X → StepsTo X
jointly shared together (Ev e) t (Ev f) u = cond (event_eq e f && shared e) ((Ev e, together t u) ∷ []) []
jointly shared together _ t _ u = []

-- all steps, by those of the sides, and those where both have ended
abbrev pub composed_steps : {X : Type 0} → Script → Composition → Sides X → StepsTo X → StepsTo X → StepsTo X → StepsTo X
composed_steps script c sides ls rs ends =
    each_to (alone (is_left_free script c) sides.on_left sides.left_ended) ls ++
    (each_to (alone (is_right_free script c) sides.on_right sides.right_ended) rs ++
    (each_to (λ x t. each_to (jointly (is_shared script c) sides.together x t) rs) ls ++ ends))

-- ---- one process in a frame

-- an event that is hidden is done as tau
abbrev pub hiding : {X : Type 0} → (Event → Bool) → (X → X) → X → Action → X → StepsTo X
hiding hidden under ended Tau t = (Tau, under t) ∷ []
hiding hidden under ended Tick t = (Tick, ended) ∷ []
hiding hidden under ended (Ev e) t = cond (hidden e) ((Tau, under t) ∷ []) ((Ev e, under t) ∷ [])

abbrev pub to_each_image : {X : Type 0} → X → List Event → StepsTo X
to_each_image t [] = []
to_each_image t (f ∷ fs) = (Ev f, t) ∷ to_each_image t fs

-- an event is done as each of its images
abbrev pub renaming_to : {X : Type 0} → (Event → List Event) → (X → X) → X → Action → X → StepsTo X
renaming_to images under ended Tau t = (Tau, under t) ∷ []
renaming_to images under ended Tick t = (Tick, ended) ∷ []
renaming_to images under ended (Ev e) t = to_each_image (under t) (images e)

-- all steps, by those of the process, with what they lead to under the frame, and what the frame is where it has ended
abbrev pub framed_steps : {X : Type 0} → Script → Frame → (X → X) → X → StepsTo X → StepsTo X
framed_steps script (Hidden a) under ended ss = each_to (hiding (has_event script a) under ended) ss
framed_steps script (Renamed rs) under ended ss = each_to (renaming_to (images script rs) under ended) ss
