use Rattle.std.proofs.Common.{map, take}
use Rattle.csp_term.specs.Script.{assertion_of, script_of}
use Rattle.pair_store.specs.Bounds.{bounds_of}
use Rattle.verdict.specs.Outcome.{outcome_of}
use Rattle.program.specs.Answering.{AreRightSettled}
use Rattle.program.proofs.running.outcomes.Given as goal

abbrev pub invariant-loop-assertion : goal.invariant-loop-assertion
invariant-loop-assertion g l = AreRightSettled (script_of l.script) (bounds_of l.limits) (map assertion_of (take l.assertion-index l.assertion-items)) (map outcome_of l.outcomes.items)
