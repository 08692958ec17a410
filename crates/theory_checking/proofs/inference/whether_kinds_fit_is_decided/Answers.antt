use Rattle.theory_checking.proofs.AskingItems.{sets_decided, items_decided}
use Rattle.theory_checking.proofs.inference.whether_kinds_fit_is_decided.Goals as goal

pub returns-clause-sets : goal.returns-clause-sets
returns-clause-sets c = λ types raw owners right. sets_decided types raw owners right

pub returns-clause-items : goal.returns-clause-items
returns-clause-items c = λ raw script owners right good xs. items_decided raw script owners xs right good
