use Rattle.theory_checking.proofs.AskingItems.{fit_sets_asked, items_asked, fit_asked}
use Rattle.theory_checking.proofs.inference.equations_of_scripts.Goals as goal

pub returns-clause-sets : goal.returns-clause-sets
returns-clause-sets c = λ types raw o owners n below. fit_sets_asked types o owners raw n below

pub returns-clause-items : goal.returns-clause-items
returns-clause-items c = λ script o owners n xs below. items_asked script o owners n xs below

pub returns-clause-all : goal.returns-clause-all
returns-clause-all c = λ tree xs.
    fit_asked tree.script tree.numbers tree.owners tree.raw tree.start tree.end tree.equations xs tree.asking tree.below.below tree.below.parameters
