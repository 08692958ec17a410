-- Replicated forms taken apart.
use Rattle.std.proofs.Common.{◌≡◌, ℕ, refl, Some}
use Rattle.theory_syntax.specs.Expression.{Expression}
use Rattle.theory_syntax.specs.Operators.{replicated_process}
use Rattle.theory_syntax.specs.Process.{Process}
use Rattle.theory_syntax.specs.declared.process_operator.ReplicatedOperator.{ReplicatedOperator}
use Rattle.theory_syntax.specs.declared.process_operator.ReplicatedOperator.TheVariants as operator
use Rattle.csp_moves.specs.Made.{unreplicated}

pub unreplicated_form : (op : ReplicatedOperator) (n : ℕ) (e : Expression) (p : Process) → unreplicated (replicated_process op n e p) ≡ Some (op, n, e, p)
unreplicated_form operator.ExternalChoice n e p = refl
unreplicated_form operator.InternalChoice n e p = refl
unreplicated_form operator.Interleaving n e p = refl
