-- What is made of lists of values that rise rises.
use Rattle.std.proofs.Common.{◌≡◌, ℕ, zero, suc, ℤ, pos, ◌+ℤ◌, Bool, true, false, cond, List, [], ◌∷◌, filter, refl, sym, ◌∙◌, ap, subst, arith}
use Rattle.std.proofs.lemmas.Bool.{and_parts}
use Rattle.std.proofs.lemmas.Int.{ints}
use Rattle.std.specs.declared.cmp.Ordering.{Ordering}
use Rattle.std.specs.declared.cmp.Ordering.TheVariants.{Less, Equal, Greater}
use Rattle.std.specs.Ordering.{is_lt, ordering_reverse}
use Rattle.std.specs.Cmp.{IsTotalOrder, int_cmp_is}
use Rattle.theory_syntax.specs.Value.{Value, value_cmp, insert_value, insert_values, sorted_values, to_values, values_list}
use Rattle.theory_syntax.proofs.Orders.{value_total}
use Rattle.theory_semantics.specs.Meaning.Evaluation.{numbers_from}
use Rattle.theory_semantics.specs.Meaning.Offers.{RisesBy, rises}
use Rattle.theory_semantics.specs.Kinds.Kind.{Each}
use Rattle.theory_semantics.proofs.Misfits.{each_filter}
use Rattle.theory_semantics.proofs.Rising.{rises_behind}
use Rattle.theory_semantics.proofs.RisingChoices.{Apart, apart_rises, rises_apart}

-- ---- the test

pub told_rises : (vs : List Value) → rises vs ≡ true → RisesBy value_cmp vs
told_rises [] e = tt
told_rises (v ∷ []) e = tt
told_rises (v ∷ w ∷ ws) e = let both = and_parts (is_lt (value_cmp v w)) (rises (w ∷ ws)) e in (both.0, told_rises (w ∷ ws) both.1)

pub rises_told : (vs : List Value) → RisesBy value_cmp vs → rises vs ≡ true
rises_told [] r = refl
rises_told (v ∷ []) r = refl
rises_told (v ∷ w ∷ ws) r = rw (r.0) (rises_told (w ∷ ws) r.1)

-- ---- part of a list

module _ {X : Type 0} (R : X → X → Ordering) (total : IsTotalOrder R) where
  filtered_apart : (test : X → Bool) (xs : List X) → Apart R xs → Apart R (filter test xs)
  filtered_apart test [] h = tt
  filtered_apart test (x ∷ xs) h = by (test x) (each_filter (λ y. R x y ≡ Less) test xs h.0) (filtered_apart test xs h.1)
    where
      by : (b : Bool) → Each (λ y. R x y ≡ Less) (filter test xs) → Apart R (filter test xs) → Apart R (cond b (x ∷ filter test xs) (filter test xs))
      by true below rest = (below, rest)
      by false below rest = rest

  -- what is kept of a list that rises still rises
  pub filtered_rise : (test : X → Bool) (xs : List X) → RisesBy R xs → RisesBy R (filter test xs)
  filtered_rise test xs h = apart_rises R (filter test xs) (filtered_apart test xs (rises_apart R total xs h))

-- ---- values that are put in

above : (v w : Value) → value_cmp v w ≡ Greater → is_lt (value_cmp w v) ≡ true
above v w is = ap is_lt (value_total.antisymm w v ∙ ap ordering_reverse is)

pub insert_rises : (v : Value) (ws : List Value) → RisesBy value_cmp ws → RisesBy value_cmp (insert_value v ws)
insert_rises v [] rises = tt
insert_rises v (w ∷ ws) rises = by_order (value_cmp v w) refl (insert_rises v ws (rises_behind value_cmp w ws rises))
  where
    below : (us : List Value) → RisesBy value_cmp (w ∷ us) → value_cmp v w ≡ Greater → RisesBy value_cmp (insert_value v us) → RisesBy value_cmp (w ∷ insert_value v us)
    below [] r is behind = (above v w is, tt)
    below (u ∷ us) r is behind = next (value_cmp v u) refl
      where
        next : (s : Ordering) → value_cmp v u ≡ s → RisesBy value_cmp (w ∷ insert_value v (u ∷ us))
        next Less to = rw to ((above v w is, (ap is_lt to, r.1)))
        next Equal to = rw to (r.0, r.1)
        next Greater to = rw to (r.0, rw to at behind)

    by_order : (r : Ordering) → value_cmp v w ≡ r → RisesBy value_cmp (insert_value v ws) → RisesBy value_cmp (insert_value v (w ∷ ws))
    by_order Less is behind = rw is (ap is_lt is, rises)
    by_order Equal is behind = rw is rises
    by_order Greater is behind = rw is (below ws rises is behind)

pub inserts_rise : (vs ws : List Value) → RisesBy value_cmp ws → RisesBy value_cmp (insert_values vs ws)
inserts_rise [] ws rises = rises
inserts_rise (v ∷ vs) ws rises = inserts_rise vs (insert_value v ws) (insert_rises v ws rises)

pub sorted_rise : (vs : List Value) → RisesBy value_cmp (sorted_values vs)
sorted_rise vs = inserts_rise vs [] tt

-- ---- numbers

pub numbers_rise : (x : ℤ) (n : ℕ) → RisesBy value_cmp (numbers_from x n)
numbers_rise x zero = tt
numbers_rise x (suc zero) = tt
numbers_rise x (suc (suc n)) = (ap is_lt (sym (int_cmp_is x (x +ℤ pos 1) Less (omega (arith, ints)))), numbers_rise (x +ℤ pos 1) (suc n))

-- ---- the list of a set's members

pub listed_again : (vs : List Value) → values_list (to_values vs) ≡ vs
listed_again [] = refl
listed_again (v ∷ vs) = ap (λ ws. v ∷ ws) (listed_again vs)

pub members_rise : (vs : List Value) → RisesBy value_cmp vs → RisesBy value_cmp (values_list (to_values vs))
members_rise vs h = subst (RisesBy value_cmp) (sym (listed_again vs)) h
