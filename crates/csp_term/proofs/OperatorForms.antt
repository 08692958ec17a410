-- Processes under an operator: their places, order, size and depth, and values put into them.
use Rattle.std.proofs.Common.{◌≡◌, ℕ, ◌+◌, ◌<◌, ◌≤◌, max, refl, arith}
use Rattle.std.specs.declared.cmp.Ordering.{Ordering}
use Rattle.std.specs.Ordering.{nat_cmp, ordering_then}
use Rattle.theory_syntax.specs.Expression.{Expression}
use Rattle.theory_syntax.specs.Process.{Process}
use Rattle.theory_syntax.specs.Order.{expression_cmp, process_cmp, process_place}
use Rattle.theory_syntax.specs.declared.process_operator.ProcessOperator.{ProcessOperator}
use Rattle.theory_syntax.specs.declared.process_operator.ProcessOperator.TheVariants as binary
use Rattle.theory_syntax.specs.declared.process_operator.ReplicatedOperator.{ReplicatedOperator}
use Rattle.theory_syntax.specs.declared.process_operator.ReplicatedOperator.TheVariants as replicated
use Rattle.theory_syntax.specs.contracts.process_operator.ProcessOperatorOrd.TheImpl as binary_impl
use Rattle.theory_syntax.specs.contracts.process_operator.ReplicatedOperatorOrd.TheImpl as replicated_impl
use Rattle.theory_syntax.specs.Operators.{binary_process, replicated_process}
use Rattle.theory_semantics.specs.Meaning.Limits.{depth, size}
use Rattle.theory_semantics.specs.Meaning.Substitution.{Bindings, put, put_expression, without}
use Rattle.csp_term.specs.Own.{own_depth, own_size}

-- ---- of two processes

abbrev pub binary_cmp : ProcessOperator → ProcessOperator → Ordering
binary_cmp = binary_impl.ghosts.cmp

pub binary_from : (op : ProcessOperator) (p q : Process) → 7 ≤ process_place (binary_process op p q)
binary_from binary.ExternalChoice p q = omega arith
binary_from binary.InternalChoice p q = omega arith
binary_from binary.Sequential p q = omega arith
binary_from binary.Interleaving p q = omega arith
binary_from binary.Interrupt p q = omega arith

pub binary_below : (op : ProcessOperator) (p q : Process) → process_place (binary_process op p q) < 12
binary_below binary.ExternalChoice p q = omega arith
binary_below binary.InternalChoice p q = omega arith
binary_below binary.Sequential p q = omega arith
binary_below binary.Interleaving p q = omega arith
binary_below binary.Interrupt p q = omega arith

pub binary_ordered : (op oq : ProcessOperator) (p q r s : Process) → ordering_then (binary_cmp op oq) (ordering_then (process_cmp p r) (process_cmp q s)) ≡ process_cmp (binary_process op p q) (binary_process oq r s)
binary_ordered binary.ExternalChoice binary.ExternalChoice p q r s = refl
binary_ordered binary.InternalChoice binary.InternalChoice p q r s = refl
binary_ordered binary.Sequential binary.Sequential p q r s = refl
binary_ordered binary.Interleaving binary.Interleaving p q r s = refl
binary_ordered binary.Interrupt binary.Interrupt p q r s = refl
binary_ordered _ _ p q r s = refl

pub binary_own_size : (op : ProcessOperator) (p q : Process) → size (binary_process op p q) ≡ own_size (binary_process op p q) + (size p + size q)
binary_own_size binary.ExternalChoice p q = refl
binary_own_size binary.InternalChoice p q = refl
binary_own_size binary.Sequential p q = refl
binary_own_size binary.Interleaving p q = refl
binary_own_size binary.Interrupt p q = refl

-- it has nothing but the operator at its head
pub binary_head_size : (op : ProcessOperator) (p q : Process) → own_size (binary_process op p q) ≡ 1
binary_head_size binary.ExternalChoice p q = refl
binary_head_size binary.InternalChoice p q = refl
binary_head_size binary.Sequential p q = refl
binary_head_size binary.Interleaving p q = refl
binary_head_size binary.Interrupt p q = refl

pub binary_head_depth : (op : ProcessOperator) (p q : Process) → own_depth (binary_process op p q) ≡ 0
binary_head_depth binary.ExternalChoice p q = refl
binary_head_depth binary.InternalChoice p q = refl
binary_head_depth binary.Sequential p q = refl
binary_head_depth binary.Interleaving p q = refl
binary_head_depth binary.Interrupt p q = refl

pub binary_own_depth : (op : ProcessOperator) (p q : Process) → depth (binary_process op p q) ≡ 1 + max (own_depth (binary_process op p q)) (max (depth p) (depth q))
binary_own_depth binary.ExternalChoice p q = omega arith
binary_own_depth binary.InternalChoice p q = omega arith
binary_own_depth binary.Sequential p q = omega arith
binary_own_depth binary.Interleaving p q = omega arith
binary_own_depth binary.Interrupt p q = omega arith

pub binary_put : (bs : Bindings) (op : ProcessOperator) (p q : Process) → put bs (binary_process op p q) ≡ binary_process op (put bs p) (put bs q)
binary_put bs binary.ExternalChoice p q = refl
binary_put bs binary.InternalChoice p q = refl
binary_put bs binary.Sequential p q = refl
binary_put bs binary.Interleaving p q = refl
binary_put bs binary.Interrupt p q = refl

-- ---- of a process for each value of a set

abbrev pub replicated_cmp : ReplicatedOperator → ReplicatedOperator → Ordering
replicated_cmp = replicated_impl.ghosts.cmp

pub replicated_from : (op : ReplicatedOperator) (n : ℕ) (e : Expression) (p : Process) → 16 ≤ process_place (replicated_process op n e p)
replicated_from replicated.ExternalChoice n e p = omega arith
replicated_from replicated.InternalChoice n e p = omega arith
replicated_from replicated.Interleaving n e p = omega arith

pub replicated_below : (op : ReplicatedOperator) (n : ℕ) (e : Expression) (p : Process) → process_place (replicated_process op n e p) < 19
replicated_below replicated.ExternalChoice n e p = omega arith
replicated_below replicated.InternalChoice n e p = omega arith
replicated_below replicated.Interleaving n e p = omega arith

pub replicated_ordered : (op oq : ReplicatedOperator) (m n : ℕ) (e f : Expression) (p q : Process) →
    ordering_then (replicated_cmp op oq) (ordering_then (nat_cmp m n) (ordering_then (expression_cmp e f) (process_cmp p q))) ≡ process_cmp (replicated_process op m e p) (replicated_process oq n f q)
replicated_ordered replicated.ExternalChoice replicated.ExternalChoice m n e f p q = refl
replicated_ordered replicated.InternalChoice replicated.InternalChoice m n e f p q = refl
replicated_ordered replicated.Interleaving replicated.Interleaving m n e f p q = refl
replicated_ordered _ _ m n e f p q = refl

pub replicated_own_size : (op : ReplicatedOperator) (n : ℕ) (e : Expression) (p : Process) → size (replicated_process op n e p) ≡ own_size (replicated_process op n e p) + size p
replicated_own_size replicated.ExternalChoice n e p = omega arith
replicated_own_size replicated.InternalChoice n e p = omega arith
replicated_own_size replicated.Interleaving n e p = omega arith

pub replicated_own_depth : (op : ReplicatedOperator) (n : ℕ) (e : Expression) (p : Process) → depth (replicated_process op n e p) ≡ 1 + max (own_depth (replicated_process op n e p)) (depth p)
replicated_own_depth replicated.ExternalChoice n e p = refl
replicated_own_depth replicated.InternalChoice n e p = refl
replicated_own_depth replicated.Interleaving n e p = refl

pub replicated_put : (bs : Bindings) (op : ReplicatedOperator) (n : ℕ) (e : Expression) (p : Process) → put bs (replicated_process op n e p) ≡ replicated_process op n (put_expression bs e) (put (without n bs) p)
replicated_put bs replicated.ExternalChoice n e p = refl
replicated_put bs replicated.InternalChoice n e p = refl
replicated_put bs replicated.Interleaving n e p = refl
