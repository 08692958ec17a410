use Rattle.theory_runs.proofs.Meeting.{done_more}
use Rattle.theory_runs.proofs.stuck_runs.one_more_is_done.Goals as goal

pub returns : goal.returns
returns c = λ script t h done m after v steps is stands free are put. done_more script t h done m after v steps is stands free are put
