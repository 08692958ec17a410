use Rattle.theory_semantics.proofs.Rising.{all_that_is_one}
use Rattle.theory_semantics.proofs.all_that_a_term_can_do_is_one_list.Goals as goal

pub returns : goal.returns
returns c = all_that_is_one
