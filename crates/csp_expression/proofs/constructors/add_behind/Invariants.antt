use Rattle.std.proofs.Common.{◌≡◌, ◌++◌, take}
use Rattle.csp_value.specs.Value.{value_of}
use Rattle.csp_expression.specs.Choosing.{lists_of, with_first}
use Rattle.csp_expression.proofs.constructors.add_behind.Given as goal

abbrev pub invariant-loop-list : goal.invariant-loop-list
invariant-loop-list g l = lists_of l.more.items ≡ lists_of l.fn.all.items ++ with_first (value_of l.value) (lists_of (take l.list-index l.lists))
