-- The way by tau, and one by each event so far.
use Rattle.std.proofs.Common.{◌≡◌, ◌∷◌, map, take, Some}
use Rattle.theory_syntax.specs.Value.{Ev, Tau}
use Rattle.csp_value.specs.Action.{event_of}
use Rattle.csp_term.specs.Term.{process_of}
use Rattle.theory_origins.specs.Origin.{Hides, InBody}
use Rattle.theory_origins.specs.Ways.{Through, part}
use Rattle.csp_moves.specs.Way.{ways_of}
use Rattle.csp_moves.proofs.hiding.through_hidden.Given as goal

abbrev pub invariant-loop-event : goal.invariant-loop-event
invariant-loop-event g l =
    ways_of l.ways ≡ Through InBody (part (process_of l.body) Tau (Some (process_of l.target))) ∷ map (λ e. Through (Hides e) (part (process_of l.body) (Ev e) (Some (process_of l.target)))) (map event_of (take l.event-index l.events))
