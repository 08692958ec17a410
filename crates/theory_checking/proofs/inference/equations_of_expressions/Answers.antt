use Rattle.theory_checking.proofs.Asking.{fixed_chain}
use Rattle.theory_checking.proofs.AskingExpressions.{value_asks, expression_asks, expressions_asks, all_asks, first_asks}
use Rattle.theory_checking.proofs.inference.equations_of_expressions.Goals as goal

pub returns-clause-values : goal.returns-clause-values
returns-clause-values c = λ types o owners n v k below h. value_asks types o owners n v k below (fixed_chain n k h)

pub returns-clause-expressions : goal.returns-clause-expressions
returns-clause-expressions c = λ types o owners n names e k below h. expression_asks types o owners names n e k below (fixed_chain n k h)

pub returns-clause-items : goal.returns-clause-items
returns-clause-items c = λ types o owners n names es k below h. expressions_asks types o owners names n es k below (fixed_chain n k h)

pub returns-clause-in_turn : goal.returns-clause-in_turn
returns-clause-in_turn c = λ types o owners n names es ms below h. all_asks types o owners names n es ms below h

pub returns-clause-first_in_turn : goal.returns-clause-first_in_turn
returns-clause-first_in_turn c = λ types o owners n names es ms below h. first_asks types o owners names n es ms below h
