-- The texts of sets of events under an operator.
use Rattle.std.proofs.Common.{◌≡◌, ◌++◌, refl}
use Rattle.std.specs.Prelude.{codes}
use Rattle.theory_syntax.specs.Process.{EventSet}
use Rattle.theory_syntax.specs.Operators.{combined}
use Rattle.theory_syntax.specs.declared.event_set_operator.EventSetOperator.{EventSetOperator}
use Rattle.theory_syntax.specs.declared.event_set_operator.EventSetOperator.TheVariants as operator
use Rattle.theory_notation.specs.Names.{Names}
use Rattle.theory_notation.specs.EventSets.{event_set_text}
use Rattle.csp_print.specs.EventSets.{operator_text}

pub combined_text : (names : Names) (op : EventSetOperator) (a b : EventSet) →
    operator_text op ++ (event_set_text names a ++ (codes ", " ++ (event_set_text names b ++ codes ")"))) ≡ event_set_text names (combined op a b)
combined_text names operator.Union a b = refl
combined_text names operator.Intersection a b = refl
combined_text names operator.Difference a b = refl
