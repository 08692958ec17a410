use Rattle.theory_semantics.proofs.RisingChoices.{constructors_rise}
use Rattle.theory_semantics.proofs.values_of_datatypes_rise.Goals as goal

pub returns : goal.returns
returns c = λ types ks vs rising sets is. constructors_rise types sets ks vs rising is
