use Rattle.theory_runs.proofs.WayBack.{way_ends}
use Rattle.theory_runs.proofs.stuck_runs.ways_back_are_runs.Goals as goal

pub returns : goal.returns
returns c = λ script t m end here path states met way told. way_ends script t m met end path states here way told
