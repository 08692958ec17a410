-- How the operators of sets of events are written.
use Rattle.std.specs.Prelude.{ℕ, List, codes}
use Rattle.theory_syntax.specs.declared.event_set_operator.EventSetOperator.{EventSetOperator}
use Rattle.theory_syntax.specs.declared.event_set_operator.EventSetOperator.TheVariants as operator

abbrev pub operator_text : EventSetOperator → List ℕ
operator_text operator.Union = codes "union("
operator_text operator.Intersection = codes "inter("
operator_text operator.Difference = codes "diff("
