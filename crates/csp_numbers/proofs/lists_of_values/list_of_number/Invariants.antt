use Rattle.csp_numbers.proofs.Choosing.{IsChosenUpTo}
use Rattle.csp_numbers.proofs.lists_of_values.list_of_number.Given as goal

abbrev pub invariant-loop-set : goal.invariant-loop-set
invariant-loop-set g l = IsChosenUpTo l.sets l.fn.number l.set-index l.number l.count l.list.items
