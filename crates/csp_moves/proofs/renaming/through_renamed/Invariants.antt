-- One way by each event so far.
use Rattle.std.proofs.Common.{◌≡◌, map, take, Some}
use Rattle.theory_syntax.specs.Value.{Ev}
use Rattle.csp_value.specs.Action.{event_of}
use Rattle.csp_term.specs.Term.{process_of}
use Rattle.theory_origins.specs.Origin.{Renames}
use Rattle.theory_origins.specs.Ways.{Through, part}
use Rattle.csp_moves.specs.Way.{ways_of}
use Rattle.csp_moves.proofs.renaming.through_renamed.Given as goal

abbrev pub invariant-loop-event : goal.invariant-loop-event
invariant-loop-event g l = ways_of l.ways ≡ map (λ e. Through (Renames e (event_of l.image)) (part (process_of l.body) (Ev e) (Some (process_of l.target)))) (map event_of (take l.event-index l.events))
