-- None of the first steps is the one.
use Rattle.std.proofs.Common.{take, map, Contains, Some}
use Rattle.csp_term.specs.Term.{process_of}
use Rattle.csp_steps.specs.Answering.{answered_of}
use Rattle.csp_moves.specs.Way.{lent_action}
use Rattle.csp_moves.proofs.deciding.has_step.Given as goal

abbrev pub invariant-loop-step : goal.invariant-loop-step
invariant-loop-step g l = ¬ Contains (map answered_of (take l.step-index l.steps)) (lent_action l.action, Some (process_of l.target))
