use Rattle.theory_explanation.proofs.Lacks.{counterpart_shows}
use Rattle.theory_explanation.proofs.counterparts_show_lack.Goals as goal

pub returns : goal.returns
returns c = λ script a v n found told violation is same. counterpart_shows script a v n found told violation is same
