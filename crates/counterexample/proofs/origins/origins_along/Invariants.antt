-- The origins of the steps so far.
use Rattle.std.proofs.Common.{◌+◌, map, take}
use Rattle.theory_explanation.specs.Counterexamples.{AreOriginsAlong}
use Rattle.csp_value.specs.Action.{action_of}
use Rattle.csp_term.specs.Script.{script_of}
use Rattle.csp_term.specs.Term.{process_of}
use Rattle.counterexample.specs.Counterexample.{origins_listed}
use Rattle.counterexample.proofs.origins.origins_along.Given as goal

abbrev pub invariant-loop-place : goal.invariant-loop-place
invariant-loop-place g l =
    AreOriginsAlong (script_of l.script) (map action_of (take l.place l.path)) (map process_of (take (l.place + 1) l.states)) (origins_listed l.all.items)
