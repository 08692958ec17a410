-- What is there so far is by the steps so far.
use Rattle.std.proofs.Common.{take, map}
use Rattle.csp_value.specs.Action.{event_of}
use Rattle.csp_term.specs.Term.{process_of}
use Rattle.csp_steps.specs.Answering.{answered_of}
use Rattle.csp_moves.specs.Passing.{ArePassing, IsPassing}
use Rattle.csp_moves.proofs.passing.all_passing.Given as goal

abbrev pub invariant-loop-step : goal.invariant-loop-step
invariant-loop-step g l = ArePassing (process_of l.target) (IsPassing l.passing) (map answered_of (take l.step-index l.steps)) (map event_of l.events.items)
