-- The terms so far are those behind the one at hand, the last one first.
use Rattle.std.proofs.Common.{List, length, map}
use Rattle.theory_syntax.specs.Value.{Action}
use Rattle.theory_syntax.specs.Process.{Process, Script}
use Rattle.theory_runs.specs.Layers.{IsOnWay}
use Rattle.csp_term.specs.Term.{process_of}
use Rattle.csp_replay.specs.Layer.{layer_of}
use Rattle.csp_replay.specs.Ways.{EndsAt}
use Rattle.csp_replay.proofs.way.way_to.Given as goal

abbrev pub invariant-loop-before : goal.invariant-loop-before
invariant-loop-before g l =
    (script : Script) (t : Process) (path : List Action) (u : Process) → EndsAt script t path l.fn.layers l.fn.end u →
    IsOnWay script t path u (map layer_of l.behind.items) (layer_of l.layer) l.place (map process_of l.way.items)

abbrev pub decreases-loop-before : goal.decreases-loop-before
decreases-loop-before g l = length l.behind.items
