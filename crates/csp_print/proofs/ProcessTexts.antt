-- The texts of processes under an operator.
use Rattle.std.proofs.Common.{◌≡◌, ℕ, ◌++◌, refl}
use Rattle.std.specs.Prelude.{codes}
use Rattle.theory_search.specs.Printing.{name_at}
use Rattle.theory_syntax.specs.Expression.{Expression}
use Rattle.theory_syntax.specs.Process.{Process}
use Rattle.theory_syntax.specs.Operators.{binary_process, replicated_process}
use Rattle.theory_syntax.specs.declared.process_operator.ProcessOperator.{ProcessOperator}
use Rattle.theory_syntax.specs.declared.process_operator.ProcessOperator.TheVariants as operator
use Rattle.theory_syntax.specs.declared.process_operator.ReplicatedOperator.{ReplicatedOperator}
use Rattle.theory_syntax.specs.declared.process_operator.ReplicatedOperator.TheVariants as replicated
use Rattle.theory_notation.specs.Names.{Names}
use Rattle.theory_notation.specs.Expressions.{operand_text}
use Rattle.theory_notation.specs.Processes.{chain_text, process_text, shape}
use Rattle.csp_print.specs.Shapes.{operator_of, replicator_text}

pub chained : (names : Names) (op : ProcessOperator) (p q : Process) →
    chain_text (operator_of op) (shape p) (process_text names p) (shape q) (process_text names q) ≡ process_text names (binary_process op p q)
chained names operator.ExternalChoice p q = refl
chained names operator.InternalChoice p q = refl
chained names operator.Sequential p q = refl
chained names operator.Interleaving p q = refl
chained names operator.Interrupt p q = refl

pub replicated_over : (names : Names) (op : ReplicatedOperator) (n : ℕ) (e : Expression) (p : Process) →
    replicator_text op ++ (name_at names.bound n ++ (codes ":" ++ (operand_text names 6 e ++ (codes " @ " ++ process_text names p)))) ≡ process_text names (replicated_process op n e p)
replicated_over names replicated.ExternalChoice n e p = refl
replicated_over names replicated.InternalChoice n e p = refl
replicated_over names replicated.Interleaving n e p = refl
