use Rattle.theory_checking.proofs.AlongTokens.{all_declared_along, sites_along, items_along}
use Rattle.theory_checking.proofs.passes_go_in_the_order_of_the_text.Goals as goal

pub returns-clause-declared : goal.returns-clause-declared
returns-clause-declared c = all_declared_along

pub returns-clause-sites : goal.returns-clause-sites
returns-clause-sites c = sites_along

pub returns-clause-items : goal.returns-clause-items
returns-clause-items c = items_along
