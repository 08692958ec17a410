use Rattle.theory_semantics.proofs.Settling.{settled_closed}
use Rattle.theory_semantics.proofs.KindedSteps.{step_closed, run_closed}
use Rattle.theory_semantics.proofs.kinds.steps_keep_terms_closed.Goals as goal

pub returns-clause-settled : goal.returns-clause-settled
returns-clause-settled c = λ script kinds good t h. settled_closed script kinds good.sets good.equations t h

pub returns-clause-step : goal.returns-clause-step
returns-clause-step c = λ script kinds good t x u h step. step_closed script kinds good.sets good.equations t x u step h

pub returns-clause-run : goal.returns-clause-run
returns-clause-run c = λ script kinds good t path u h run. run_closed script kinds good.sets good.equations path t u run h
