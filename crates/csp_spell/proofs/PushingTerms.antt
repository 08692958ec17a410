-- The parts and sizes of processes under an operator.
use Rattle.std.proofs.Common.{◌≡◌, ℕ, ◌+◌, refl}
use Rattle.theory_syntax.specs.Expression.{Expression}
use Rattle.theory_syntax.specs.Process.{Process}
use Rattle.theory_semantics.specs.Meaning.Limits.{size, expression_size}
use Rattle.theory_spelling.specs.Packable.{IsPackable, IsPackableExpression}
use Rattle.theory_syntax.specs.declared.process_operator.ProcessOperator.{ProcessOperator}
use Rattle.theory_syntax.specs.declared.process_operator.ProcessOperator.TheVariants as binary
use Rattle.theory_syntax.specs.declared.process_operator.ReplicatedOperator.{ReplicatedOperator}
use Rattle.theory_syntax.specs.declared.process_operator.ReplicatedOperator.TheVariants as replicated
use Rattle.theory_syntax.specs.Operators.{binary_process, replicated_process}

pub size_binary : (op : ProcessOperator) (p q : Process) → size (binary_process op p q) ≡ 1 + (size p + size q)
size_binary binary.ExternalChoice p q = refl
size_binary binary.InternalChoice p q = refl
size_binary binary.Sequential p q = refl
size_binary binary.Interleaving p q = refl
size_binary binary.Interrupt p q = refl

pub packable_binary : (op : ProcessOperator) (p q : Process) → IsPackable (binary_process op p q) → IsPackable p × IsPackable q
packable_binary binary.ExternalChoice p q fits = fits
packable_binary binary.InternalChoice p q fits = fits
packable_binary binary.Sequential p q fits = fits
packable_binary binary.Interleaving p q fits = fits
packable_binary binary.Interrupt p q fits = fits

pub size_replicated : (op : ReplicatedOperator) (n : ℕ) (e : Expression) (p : Process) → size (replicated_process op n e p) ≡ 1 + (expression_size e + size p)
size_replicated replicated.ExternalChoice n e p = refl
size_replicated replicated.InternalChoice n e p = refl
size_replicated replicated.Interleaving n e p = refl

pub packable_replicated : (op : ReplicatedOperator) (n : ℕ) (e : Expression) (p : Process) → IsPackable (replicated_process op n e p) → IsPackableExpression e × IsPackable p
packable_replicated replicated.ExternalChoice n e p fits = fits
packable_replicated replicated.InternalChoice n e p fits = fits
packable_replicated replicated.Interleaving n e p fits = fits
