-- The fields of an account: the run that it tells, the loop that goes on from there, and the parts that wait at its end.
use Rattle.std.specs.Prelude.{ℕ, List, [], ◌∷◌, ◌++◌, map, take, drop, length, replicate, codes, Option, None, Some}
use Rattle.theory_syntax.specs.Value.{Action, Event, Tau}
use Rattle.theory_syntax.specs.Process.{Process}
use Rattle.theory_search.specs.Printing.{name_at}
use Rattle.theory_origins.specs.Doers.{Doer, doers}
use Rattle.theory_origins.specs.Origin.{Side, OnSide, InBody, OnBranch, UnderGuard, InChain, SideEnds, Hides, Renames, Origin, Does, Ends, Unfolds, Chooses, Slides, Below, Together}
use Rattle.theory_notation.specs.Names.{Names}
use Rattle.theory_notation.specs.Processes.{process_text}
use Rattle.theory_explanation.specs.Accounts.{Account, Bare, Shown, Stuck, WideEnd}
use Rattle.theory_explanation.specs.Actions.{action_text, event_text}
use Rattle.theory_explanation.specs.Counterexamples.{Loop, Waiting}
use Rattle.theory_explanation.specs.Faults.{SideRun, OfImplementation, OfSpecification}
use Rattle.theory_explanation.specs.Legend.{side_text}
use Rattle.theory_objects.specs.Fields.{Field, number_field, object_field, objects_field, text_field, texts_field}

-- ---- where a step comes from

-- the sides on the way down to a part, from the outermost one on
abbrev pub way_field : List Side → Field
way_field way = texts_field (codes "way") (map side_text way)

-- a part that does an event, by its way from the whole on, and the event that it is there
abbrev pub doer_fields : Names → List Side → Doer → List Field
doer_fields names way d = way_field (way ++ d.way) ∷ text_field (codes "event") (event_text names d.event) ∷ []

-- the parts below the end of a way that do an event
abbrev pub doers_fields : Names → List Side → List Doer → List Field
doers_fields names way ds = objects_field (codes "parts") (map (doer_fields names way) ds) ∷ []

-- what moves at the end of a way
abbrev pub moved_fields : List Side → (kind : List ℕ) → List Field
moved_fields way kind = way_field way ∷ text_field (codes "kind") kind ∷ []

-- an event is done there, and these parts do it
abbrev pub done_fields : Names → List Side → (kind : List ℕ) → Event → List Doer → List Field
done_fields names way kind e ds = moved_fields way kind ++ (text_field (codes "event") (event_text names e) ∷ doers_fields names way ds)

-- The sides on the way down to the part that moves, and what moves it. Of an event the parts that do it are told. Through a
-- body, under a guard and in a chain of instances the way has no side.
abbrev pub origin_fields : Names → List Side → Origin → List Field
origin_fields names way (Does e) = done_fields names way (codes "does") e (doers (Does e))
origin_fields names way Ends = moved_fields way (codes "ends")
origin_fields names way (Unfolds n) = moved_fields way (codes "unfolds") ++ (text_field (codes "name") (name_at names.equations n) ∷ [])
origin_fields names way (Chooses side) = moved_fields way (codes "chooses") ++ (text_field (codes "side") (side_text side) ∷ [])
origin_fields names way Slides = moved_fields way (codes "slides")
origin_fields names way (Below (OnSide side) part) = origin_fields names (way ++ side ∷ []) part
origin_fields names way (Below InBody part) = origin_fields names way part
origin_fields names way (Below (OnBranch side) part) = origin_fields names (way ++ side ∷ []) part
origin_fields names way (Below UnderGuard part) = origin_fields names way part
origin_fields names way (Below InChain part) = origin_fields names way part
origin_fields names way (Below (SideEnds side) part) = origin_fields names (way ++ side ∷ []) part
origin_fields names way (Below (Hides e) part) = done_fields names way (codes "hides") e (doers part)
origin_fields names way (Below (Renames e f) part) = done_fields names way (codes "renames") f (doers part)
origin_fields names way (Together left right) = moved_fields way (codes "together") ++ doers_fields names way (doers (Together left right))

-- ---- runs

-- what is done, the state that it leads to, and where it comes from, if that is told
pub record Step : Type 0 where
  pub action : Action
  pub state : Process
  pub origin : Option Origin

-- the steps by these actions, to these states
abbrev pub steps_to : List Action → List Process → List (Option Origin) → List Step
steps_to [] states origins = []
steps_to (x ∷ path) [] origins = []
steps_to (x ∷ path) (t ∷ states) [] = []
steps_to (x ∷ path) (t ∷ states) (o ∷ origins) = record { action = x; state = t; origin = o } ∷ steps_to path states origins

-- an object, if the origin is told
abbrev pub origin_told : Names → Option Origin → List Field
origin_told names (Some o) = object_field (codes "origin") (origin_fields names [] o) ∷ []
origin_told names None = []

abbrev pub step_fields : Names → Step → List Field
step_fields names s = text_field (codes "action") (action_text names s.action) ∷ text_field (codes "state") (process_text names s.state) ∷ origin_told names s.origin

abbrev pub steps_fields : Names → List Step → List Field
steps_fields names steps = objects_field (codes "steps") (map (step_fields names) steps) ∷ []

-- the state at the start of a run, and its steps
abbrev pub run_fields : Names → List Action → List Process → List (Option Origin) → List Field
run_fields names path [] origins = []
run_fields names path (t ∷ states) origins = text_field (codes "start") (process_text names t) ∷ steps_fields names (steps_to path states origins)

-- ---- the end of a run

-- The taus of a loop: each leads to the next of its states, and the last one back.
abbrev pub taus_of : Loop → List Step
taus_of loop = steps_to (replicate (length loop.states) Tau) (drop 1 loop.states ++ take 1 (drop loop.back loop.states)) loop.origins

-- the place of the state that the last tau leads back to, and the taus
abbrev pub loop_fields : Names → Option Loop → List Field
loop_fields names (Some loop) = object_field (codes "loop") (number_field (codes "back") loop.back ∷ steps_fields names (taus_of loop)) ∷ []
loop_fields names None = []

-- a part, and all that it can do by itself
abbrev pub part_fields : Names → Waiting → List Field
part_fields names w = way_field w.way ∷ text_field (codes "process") (process_text names w.process) ∷ texts_field (codes "initials") (map (action_text names) w.initials) ∷ []

-- A state that is one part alone has been told.
abbrev pub waiting_fields : Names → List Waiting → List Field
waiting_fields names [] = []
waiting_fields names (w ∷ []) = []
waiting_fields names (w ∷ v ∷ ws) = objects_field (codes "waiting") (map (part_fields names) (w ∷ v ∷ ws)) ∷ []

-- ---- an account

-- a run, with the side that it is of
abbrev pub side_fields : Names → SideRun → List Field
side_fields names (OfImplementation path states origins) = text_field (codes "side") (codes "implementation") ∷ run_fields names path states origins
side_fields names (OfSpecification path states origins) = text_field (codes "side") (codes "specification") ∷ run_fields names path states origins

abbrev pub stuck_fields : Names → Option SideRun → List Field
stuck_fields names (Some run) = side_fields names run
stuck_fields names None = []

abbrev pub account_fields : Names → Account → List Field
account_fields names Bare = []
account_fields names (Shown v c) = run_fields names v.path c.states c.origins ++ (loop_fields names c.loop ++ waiting_fields names c.waiting)
account_fields names WideEnd = []
account_fields names (Stuck h run) = stuck_fields names run
