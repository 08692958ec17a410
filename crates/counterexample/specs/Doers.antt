-- The parts that do an event, as those of the code stand for them.
use Rattle.std.specs.Prelude.{List, [], ◌∷◌, ◌++◌, map, Option, Some, None, option_map}
use Rattle.std.specs.Borrow.{Bor}
use Rattle.theory_syntax.specs.Value.{Action, Tau, Tick, Ev}
use Rattle.theory_syntax.specs.Value as value
use Rattle.theory_origins.specs.Doers as pure
use Rattle.theory_origins.specs.Origin.{Side}
use Rattle.csp_value.specs.Action.{event_of}
use Rattle.csp_value.specs.declared.action.Event.{Event}
use Rattle.csp_moves.specs.Passage.{side_of}
use Rattle.counterexample.specs.declared.doers.Doer.{Doer}

abbrev pub doer_of : {A : Type 0} → Doer A → pure.Doer
doer_of d = record { way = map side_of d.way.items; event = event_of d.event.now }

abbrev pub doers_listed : {A : Type 0} → List (Doer A) → List pure.Doer
doers_listed ds = map doer_of ds

-- below a way that leads down to a process
abbrev pub behind_way : List Side → pure.Doer → pure.Doer
behind_way way d = record { way = way ++ d.way; event = d.event }

abbrev pub all_behind : List Side → List pure.Doer → List pure.Doer
all_behind way ds = map (behind_way way) ds

-- the event that an action is, if it is one
abbrev pub seen_event : Action → Option value.Event
seen_event Tau = None
seen_event Tick = None
seen_event (Ev e) = Some e

-- an event that is lent, if there is one
abbrev pub lent_event : {A : Type 0} → Option (Bor (Event A)) → Option value.Event
lent_event e = option_map (λ f. event_of f.now) e
