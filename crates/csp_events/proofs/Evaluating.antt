-- The test of a list of events that are written, and of two sets under an operator.
use Rattle.std.proofs.Common.{◌≡◌, Bool, List, map, Result, Ok, Err, refl, sym, ◌∙◌, ap, subst}
use Rattle.std.specs.declared.boxed.Box.{Box}
use Rattle.std.specs.declared.vec.Vec.{Vec}
use Rattle.std.specs.List.{list_any}
use Rattle.std.specs.List.Sorted.{IsPermutation, IsSortedBy}
use Rattle.std.specs.Ordering.{is_lt}
use Rattle.std.proofs.lemmas.List.Sorted.{IsPermutation-map, list_any-IsPermutation}
use Rattle.theory_syntax.specs.Value as pure
use Rattle.theory_syntax.specs.Process as process
use Rattle.theory_syntax.specs.declared.event_set_operator.EventSetOperator.{EventSetOperator}
use Rattle.theory_syntax.specs.declared.event_set_operator.EventSetOperator.TheVariants as operator
use Rattle.theory_syntax.specs.Operators.{combined}
use Rattle.theory_semantics.specs.Meaning.Evaluation.{Cause, ◌and_then◌}
use Rattle.theory_semantics.specs.Meaning.Events.{begins_with, beginning_of, each, event_test}
use Rattle.theory_semantics.specs.Meaning.Events as events
use Rattle.csp_value.specs.declared.action.Event.{Event}
use Rattle.csp_value.specs.Action.{event_of}
use Rattle.csp_expression.specs.Cause.{cause_of}
use Rattle.csp_expression.specs.declared.no_value.NoValue.{NoValue}
use Rattle.csp_expression.specs.declared.no_value.NoValue.TheVariants as eval
use Rattle.csp_events.specs.declared.event_test.EventTest.{EventTest}
use Rattle.csp_events.specs.declared.event_test.EventTest.TheVariants as views
use Rattle.csp_events.specs.Testing.{AreSorted, IsBoxedTestOf, IsEventOf, IsTestOf, combined_test, listed_in, test_of}
use Rattle.csp_events.proofs.Testing.{both_sorted, in_beginnings, in_combined, in_events, test_of_beginnings, test_of_combined, test_of_events}

module _ (A : Type 0) (s : process.Script) (es : List process.EventExpression) where
  pub begun_by : (given : List (Event A)) (sorted : Vec (Event A) A) → each (beginning_of s) es ≡ Ok (map event_of given) → IsPermutation given sorted.items → IsSortedBy (λ e f. is_lt (pure.event_cmp (event_of e) (event_of f))) sorted.items →
      IsTestOf (Ok (views.Beginnings sorted)) (event_test s (process.Productions es))
  begun_by given sorted is moved rises = (
    ap (λ r. r and_then λ xs. Ok (λ e. list_any (begins_with e) xs)) is
        ∙ ap Ok (λ j e. (list_any-IsPermutation (begins_with e) (map event_of given) (map event_of sorted.items) (IsPermutation-map event_of given sorted.items moved) ∙ sym (test_of_beginnings A sorted e)) j),
    subst AreSorted (sym (in_beginnings A sorted)) (rises, tt),
  )

  pub listed_by : (given : List (Event A)) (sorted : Vec (Event A) A) → each (events.event_of s) es ≡ Ok (map event_of given) → IsPermutation given sorted.items → IsSortedBy (λ e f. is_lt (pure.event_cmp (event_of e) (event_of f))) sorted.items →
      IsTestOf (Ok (views.Events sorted)) (event_test s (process.Enumeration es))
  listed_by given sorted is moved rises = (
    ap (λ r. r and_then λ xs. Ok (λ e. list_any (pure.event_eq e) xs)) is
        ∙ ap Ok (λ j e. (list_any-IsPermutation (pure.event_eq e) (map event_of given) (map event_of sorted.items) (IsPermutation-map event_of given sorted.items moved) ∙ sym (test_of_events A sorted e)) j),
    subst AreSorted (sym (in_events A sorted)) (rises, tt),
  )

-- an event without a value is the cause
pub test_stopped : (A : Type 0) (one : Result pure.Event Cause) (all : Result (pure.Event → Bool) Cause) (why : NoValue) → IsEventOf {A = A} (Err why) one → ((c : Cause) → one ≡ Err c → all ≡ Err c) → IsTestOf {A = A} (Err why) all
test_stopped A one all (eval.Cause c) is goes = goes (cause_of c) is
test_stopped A one all eval.Memory is goes = tt

-- ---- two sets under an operator

module _ (s : process.Script) (op : EventSetOperator) (a b : process.EventSet) where
  combined_is : event_test s (combined op a b) ≡ (event_test s a and_then λ f. event_test s b and_then λ g. Ok (combined_test op f g))
  combined_is = by_operator op
    where
      by_operator : (o : EventSetOperator) → event_test s (combined o a b) ≡ (event_test s a and_then λ f. event_test s b and_then λ g. Ok (combined_test o f g))
      by_operator operator.Union = refl
      by_operator operator.Intersection = refl
      by_operator operator.Difference = refl

  module _ (A : Type 0) where
    -- the first has no test
    pub first_stuck : (why : NoValue) → IsBoxedTestOf {A = A} (Err why) (event_test s a) → IsTestOf {A = A} (Err why) (event_test s (combined op a b))
    first_stuck (eval.Cause c) none = combined_is ∙ ap (λ r. r and_then λ f. event_test s b and_then λ g. Ok (combined_test op f g)) none
    first_stuck eval.Memory none = tt

    module _ (l : Box (EventTest A) A) (left : IsBoxedTestOf (Ok l) (event_test s a)) where
      behind_first : event_test s (combined op a b) ≡ (event_test s b and_then λ g. Ok (combined_test op (test_of l.value) g))
      behind_first = combined_is ∙ ap (λ r. r and_then λ f. event_test s b and_then λ g. Ok (combined_test op f g)) left.0

      -- the second has none
      pub second_stuck : (why : NoValue) → IsBoxedTestOf {A = A} (Err why) (event_test s b) → IsTestOf {A = A} (Err why) (event_test s (combined op a b))
      second_stuck (eval.Cause c) none = behind_first ∙ ap (λ r. r and_then λ g. Ok (combined_test op (test_of l.value) g)) none
      second_stuck eval.Memory none = tt

      -- both have one
      pub both_tested : (r : Box (EventTest A) A) → IsBoxedTestOf (Ok r) (event_test s b) → IsTestOf (Ok (views.Combine op l r)) (event_test s (combined op a b))
      both_tested r right = (
        behind_first ∙ ap (λ x. x and_then λ g. Ok (combined_test op (test_of l.value) g)) right.0 ∙ ap Ok (λ j e. sym (test_of_combined A op l r e) j),
        subst AreSorted (sym (in_combined A op l r)) (both_sorted (listed_in l.value) (listed_in r.value) left.1 right.1),
      )
