-- What a test is at each of its forms, and what it lists.
use Rattle.std.proofs.Common.{◌≡◌, ℕ, suc, ◌+◌, ◌<◌, Bool, true, false, ◌&&◌, ◌||◌, List, [], ◌∷◌, ◌++◌, map, sym, ◌∙◌, ap, subst, arith}
use Rattle.std.specs.Box.{box_value}
use Rattle.std.specs.declared.boxed.Box.{Box}
use Rattle.std.specs.declared.vec.Vec.{Vec}
use Rattle.std.specs.List.{list_any}
use Rattle.std.specs.List.Sorted.{IsSortedBy}
use Rattle.std.specs.Ordering.{is_lt}
use Rattle.theory_syntax.specs.Value as pure
use Rattle.theory_syntax.specs.declared.event_set_operator.EventSetOperator.{EventSetOperator}
use Rattle.theory_semantics.specs.Meaning.Events.{begins_with}
use Rattle.csp_value.specs.declared.action.Event.{Event}
use Rattle.csp_value.specs.Action.{event_of}
use Rattle.csp_events.specs.declared.event_test.EventTest.{EventTest}
use Rattle.csp_events.specs.declared.event_test.EventTest.TheOpen as layer
use Rattle.csp_events.specs.declared.event_test.EventTest.TheFolds.{fold-EventTest, fold-roll-EventTest}
use Rattle.csp_events.specs.declared.event_test.EventTest.TheVariants as views
use Rattle.csp_events.specs.Testing.{AreSorted, combined_test, listed_in, listed_step, test_of, test_step}

-- ---- two truths of which the second is looked at where the first leaves it open

pub or_true : (x f g : Bool) → x ≡ true → x ≡ f → x ≡ f || g
or_true x f g is same = is ∙ ap (λ b. b || g) (sym is ∙ same)

pub or_false : (x f y g : Bool) → x ≡ false → x ≡ f → y ≡ g → y ≡ f || g
or_false x f y g is same then = then ∙ ap (λ b. b || g) (sym is ∙ same)

pub and_true : (x f y g : Bool) → x ≡ true → x ≡ f → y ≡ g → y ≡ f && g
and_true x f y g is same then = then ∙ ap (λ b. b && g) (sym is ∙ same)

pub and_false : (x f g : Bool) → x ≡ false → x ≡ f → x ≡ f && g
and_false x f g is same = is ∙ ap (λ b. b && g) (sym is ∙ same)

-- ---- what is listed

-- the first lists rise, and so do the others
first_sorted : {A : Type 0} (xs ys : List (List (Event A))) → AreSorted (xs ++ ys) → AreSorted xs
first_sorted [] ys h = tt
first_sorted (x ∷ xs) ys h = (h.0, first_sorted xs ys h.1)

second_sorted : {A : Type 0} (xs ys : List (List (Event A))) → AreSorted (xs ++ ys) → AreSorted ys
second_sorted [] ys h = h
second_sorted (x ∷ xs) ys h = second_sorted xs ys h.1

pub both_sorted : {A : Type 0} (xs ys : List (List (Event A))) → AreSorted xs → AreSorted ys → AreSorted (xs ++ ys)
both_sorted [] ys first second = second
both_sorted (x ∷ xs) ys first second = (first.0, both_sorted xs ys first.1 second)

module _ (A : Type 0) where
  pub test_of_events : (es : Vec (Event A) A) (e : pure.Event) → test_of {A = A} (views.Events es) e ≡ list_any (pure.event_eq e) (map event_of es.items)
  test_of_events es e = ap (λ t. test_of {A = A} t e) (sym (views.rolls-Events es)) ∙ ap (λ f. f e) (fold-roll-EventTest A (pure.Event → Bool) test_step (layer.Events es))

  pub test_of_beginnings : (es : Vec (Event A) A) (e : pure.Event) → test_of {A = A} (views.Beginnings es) e ≡ list_any (begins_with e) (map event_of es.items)
  test_of_beginnings es e = ap (λ t. test_of {A = A} t e) (sym (views.rolls-Beginnings es)) ∙ ap (λ f. f e) (fold-roll-EventTest A (pure.Event → Bool) test_step (layer.Beginnings es))

  pub test_of_combined : (op : EventSetOperator) (a b : Box (EventTest A) A) (e : pure.Event) → test_of {A = A} (views.Combine op a b) e ≡ combined_test op (test_of a.value) (test_of b.value) e
  test_of_combined op a b e = ap (λ t. test_of {A = A} t e) (sym (views.rolls-Combine op a b)) ∙ ap (λ f. f e) (fold-roll-EventTest A (pure.Event → Bool) test_step (layer.Combine op a b))

  pub in_events : (es : Vec (Event A) A) → listed_in {A = A} (views.Events es) ≡ es.items ∷ []
  in_events es = ap (listed_in {A = A}) (sym (views.rolls-Events es)) ∙ fold-roll-EventTest A (List (List (Event A))) listed_step (layer.Events es)

  pub in_beginnings : (es : Vec (Event A) A) → listed_in {A = A} (views.Beginnings es) ≡ es.items ∷ []
  in_beginnings es = ap (listed_in {A = A}) (sym (views.rolls-Beginnings es)) ∙ fold-roll-EventTest A (List (List (Event A))) listed_step (layer.Beginnings es)

  pub in_combined : (op : EventSetOperator) (a b : Box (EventTest A) A) → listed_in {A = A} (views.Combine op a b) ≡ listed_in a.value ++ listed_in b.value
  in_combined op a b = ap (listed_in {A = A}) (sym (views.rolls-Combine op a b)) ∙ fold-roll-EventTest A (List (List (Event A))) listed_step (layer.Combine op a b)

  module _ (t : EventTest A) (sorted : AreSorted (listed_in t)) where
    pub events_sorted : (es : Vec (Event A) A) → t ≡ views.Events es → IsSortedBy (λ e f. is_lt (pure.event_cmp (event_of e) (event_of f))) es.items
    events_sorted es is = (subst AreSorted (ap listed_in is ∙ in_events es) sorted).0

    pub beginnings_sorted : (es : Vec (Event A) A) → t ≡ views.Beginnings es → IsSortedBy (λ e f. is_lt (pure.event_cmp (event_of e) (event_of f))) es.items
    beginnings_sorted es is = (subst AreSorted (ap listed_in is ∙ in_beginnings es) sorted).0

    pub left_sorted : (op : EventSetOperator) (a b : Box (EventTest A) A) → t ≡ views.Combine op a b → AreSorted (listed_in a.value)
    left_sorted op a b is = first_sorted (listed_in a.value) (listed_in b.value) (subst AreSorted (ap listed_in is ∙ in_combined op a b) sorted)

    pub right_sorted : (op : EventSetOperator) (a b : Box (EventTest A) A) → t ≡ views.Combine op a b → AreSorted (listed_in b.value)
    right_sorted op a b is = second_sorted (listed_in a.value) (listed_in b.value) (subst AreSorted (ap listed_in is ∙ in_combined op a b) sorted)

    pub test_told : (op : EventSetOperator) (a b : Box (EventTest A) A) (e : pure.Event) → t ≡ views.Combine op a b → test_of t e ≡ combined_test op (test_of a.value) (test_of b.value) e
    test_told op a b e is = ap (λ u. test_of u e) is ∙ test_of_combined op a b e

-- ---- how many operators there are

abbrev size_step : {A : Type 0} → layer.EventTest-F A ℕ → ℕ
size_step (layer.Events es) = 0
size_step (layer.Beginnings es) = 0
size_step (layer.Combine op a b) = suc (box_value a + box_value b)

abbrev pub test_size : {A : Type 0} → EventTest A → ℕ
test_size {A} = fold-EventTest A ℕ size_step

module _ (A : Type 0) (t : EventTest A) (op : EventSetOperator) (a b : Box (EventTest A) A) (is : t ≡ views.Combine op a b) (n : ℕ) (counts : test_size t ≡ n) (u : EventTest A) where
  size_combined : test_size t ≡ suc (test_size a.value + test_size b.value)
  size_combined = ap test_size (is ∙ sym (views.rolls-Combine op a b)) ∙ fold-roll-EventTest A ℕ size_step (layer.Combine op a b)

  pub left_smaller : u ≡ a.value → test_size u < n
  left_smaller same = let e : test_size u ≡ test_size a.value = ap test_size same in omega (arith, counts, size_combined, e)

  pub right_smaller : u ≡ b.value → test_size u < n
  right_smaller same = let e : test_size u ≡ test_size b.value = ap test_size same in omega (arith, counts, size_combined, e)
