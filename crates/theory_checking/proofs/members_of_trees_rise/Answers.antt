use Rattle.theory_checking.proofs.RisingSets.{tree_members_rise}
use Rattle.theory_checking.proofs.members_of_trees_rise.Goals as goal

pub returns : goal.returns
returns c = λ raw above once d e vs is members. tree_members_rise raw above d e vs once is members
