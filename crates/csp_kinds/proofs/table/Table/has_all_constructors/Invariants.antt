use Rattle.std.proofs.Common.{◌≡◌, ◌-◌}
use Rattle.std.specs.List.{list_all}
use Rattle.csp_expression.specs.Evaluation.{numbers_up}
use Rattle.csp_kinds.specs.Looking.{is_valued}
use Rattle.csp_kinds.proofs.table.Table.has_all_constructors.Given as goal

abbrev pub invariant-loop-number : goal.invariant-loop-number
invariant-loop-number g l =
    list_all (is_valued l.self.filled.items) (numbers_up l.number (l.behind - l.number)) ≡ list_all (is_valued l.self.filled.items) (numbers_up l.first (l.behind - l.first))
