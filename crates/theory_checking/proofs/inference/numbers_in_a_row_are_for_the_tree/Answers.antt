use Rattle.theory_checking.proofs.AskingItems.{row_numbers_for}
use Rattle.theory_checking.proofs.inference.numbers_in_a_row_are_for_the_tree.Goals as goal

pub returns : goal.returns
returns c = λ owners raw. row_numbers_for owners raw
