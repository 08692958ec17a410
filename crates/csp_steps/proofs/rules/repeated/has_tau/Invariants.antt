-- No step so far is a tau.
use Rattle.std.proofs.Common.{map, take}
use Rattle.csp_steps.specs.Answering.{answered_of}
use Rattle.csp_steps.specs.Repeating.{HasTau}
use Rattle.csp_steps.proofs.rules.repeated.has_tau.Given as goal

abbrev pub invariant-loop-step : goal.invariant-loop-step
invariant-loop-step g l = HasTau (map answered_of (take l.step-index l.steps)) → ⊥
