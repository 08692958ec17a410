-- The sizes and the depths of events, of sets of events and of renaming pairs.
use Rattle.std.proofs.Common.{◌≡◌, ℕ, ◌+◌, max, List, [], ◌∷◌, refl, sym, ap, arith}
use Rattle.std.proofs.Math.Nat.{max-eq_left}
use Rattle.theory_syntax.specs.Process as pure
use Rattle.theory_syntax.specs.declared.event_set_operator.EventSetOperator.{EventSetOperator}
use Rattle.theory_syntax.specs.declared.event_set_operator.EventSetOperator.TheVariants as operator
use Rattle.theory_syntax.specs.Operators.{combined}
use Rattle.theory_semantics.specs.Meaning.Limits.{events_depth, events_size, event_set_depth, event_set_size, pairs_depth, pairs_size}
use Rattle.csp_events.specs.declared.event_expression.EventExpression.{EventExpression}
use Rattle.csp_events.specs.declared.renaming_pair.RenamingPair.{RenamingPair}
use Rattle.csp_events.specs.Events.{event_expression_of, event_expressions_of, renaming_pair_of, renaming_pairs_of}

abbrev pub event_size : {A : Type 0} → EventExpression A → ℕ
event_size e = events_size (event_expression_of e ∷ [])

abbrev pub event_sizes : {A : Type 0} → List (EventExpression A) → ℕ
event_sizes es = events_size (event_expressions_of es)

abbrev pub event_depth : {A : Type 0} → EventExpression A → ℕ
event_depth e = events_depth (event_expression_of e ∷ [])

abbrev pub event_depths : {A : Type 0} → List (EventExpression A) → ℕ
event_depths es = events_depth (event_expressions_of es)

abbrev pub pair_size : {A : Type 0} → RenamingPair A → ℕ
pair_size r = pairs_size (renaming_pair_of r ∷ [])

abbrev pub pair_sizes : {A : Type 0} → List (RenamingPair A) → ℕ
pair_sizes rs = pairs_size (renaming_pairs_of rs)

abbrev pub pair_depth : {A : Type 0} → RenamingPair A → ℕ
pair_depth r = pairs_depth (renaming_pair_of r ∷ [])

abbrev pub pair_depths : {A : Type 0} → List (RenamingPair A) → ℕ
pair_depths rs = pairs_depth (renaming_pairs_of rs)

pub event_sizes_step : {A : Type 0} (e : EventExpression A) (es : List (EventExpression A)) → event_sizes (e ∷ es) ≡ event_size e + event_sizes es
event_sizes_step e es = omega arith

pub event_depths_step : {A : Type 0} (e : EventExpression A) (es : List (EventExpression A)) → event_depths (e ∷ es) ≡ max (event_depth e) (event_depths es)
event_depths_step e es = ap (λ n. max n (event_depths es)) (sym (max-eq_left (omega arith)))

pub pair_sizes_step : {A : Type 0} (r : RenamingPair A) (rs : List (RenamingPair A)) → pair_sizes (r ∷ rs) ≡ pair_size r + pair_sizes rs
pair_sizes_step r rs = omega arith

pub pair_depths_step : {A : Type 0} (r : RenamingPair A) (rs : List (RenamingPair A)) → pair_depths (r ∷ rs) ≡ max (pair_depth r) (pair_depths rs)
pair_depths_step r rs = ap (λ n. max n (pair_depths rs)) (sym (max-eq_left (omega arith)))

-- two sets under an operator
pub combined_size : (op : EventSetOperator) (a b : pure.EventSet) → event_set_size (combined op a b) ≡ 1 + (event_set_size a + event_set_size b)
combined_size operator.Union a b = refl
combined_size operator.Intersection a b = refl
combined_size operator.Difference a b = refl

pub combined_depth : (op : EventSetOperator) (a b : pure.EventSet) → event_set_depth (combined op a b) ≡ 1 + max (event_set_depth a) (event_set_depth b)
combined_depth operator.Union a b = refl
combined_depth operator.Intersection a b = refl
combined_depth operator.Difference a b = refl
