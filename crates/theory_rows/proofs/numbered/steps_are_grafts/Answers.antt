use Rattle.theory_rows.proofs.GraftSteps.{graft_leads, grafts_are_steps, moves_as_grafts}
use Rattle.theory_rows.proofs.numbered.steps_are_grafts.Goals as goal

pub returns : goal.returns
returns c = record { moves = λ script s parts known. moves_as_grafts script 0 0 s parts known; leads = graft_leads; steps = grafts_are_steps }
