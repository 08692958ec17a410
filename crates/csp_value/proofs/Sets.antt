-- Lists of values that rise, and what they have.
use Rattle.std.proofs.Common.{◌≡◌, ℕ, List, [], ◌∷◌, ◌++◌, map, filter, refl, sym, ◌∙◌, ap, subst, Bool, true, false, ◌||◌, Some, slice_get}
use Rattle.std.specs.declared.cmp.Ordering.{Ordering}
use Rattle.std.specs.declared.cmp.Ordering.TheVariants.{Less, Equal, Greater}
use Rattle.std.specs.Ordering.{is_eq}
use Rattle.theory_syntax.specs.Value.{Value, value_cmp, value_eq, has_value, insert_value, insert_values, sorted_values}
use Rattle.theory_semantics.specs.Meaning.Offers.{RisesBy}
use Rattle.theory_syntax.proofs.Equalities.{is_eq-Equal, value_same, value_refl}
use Rattle.theory_syntax.proofs.Orders.{value_total}
use Rattle.theory_semantics.proofs.Rising.{Stands, rising_same, told_stands, stands_told}
pub use Rattle.theory_semantics.proofs.RisingValues.{insert_rises, inserts_rise, sorted_rise}

abbrev pub Rises : List Value → Type 0
Rises = RisesBy value_cmp

-- ---- tests

or_swap : (a b c : Bool) → a || (b || c) ≡ b || (a || c)
or_swap true true c = refl
or_swap true false c = refl
or_swap false b c = refl

pub or_again : (a c : Bool) → a || c ≡ a || (a || c)
or_again true c = refl
or_again false c = refl

-- ---- equality of values

pub eq_same : (v w : Value) → value_eq v w ≡ true → v ≡ w
eq_same v w e = value_same v w (is_eq-Equal (value_cmp v w) e)

pub eq_refl : (v : Value) → value_eq v v ≡ true
eq_refl v = ap is_eq (value_refl v)

-- ---- what a list has

pub has_stands : (vs : List Value) (v : Value) → has_value vs v ≡ true → Stands vs v
has_stands = told_stands value_eq eq_same has_value (λ v e. cc e) (λ w ws v. refl)

pub stands_has : (vs : List Value) (v : Value) (i : ℕ) → slice_get vs i ≡ Some v → has_value vs v ≡ true
stands_has = stands_told value_eq eq_refl has_value (λ w ws v. refl)

-- lists that rise and have the same values are the same
pub rising_alike : (vs ws : List Value) → Rises vs → Rises ws → ((v : Value) → has_value vs v ≡ has_value ws v) → vs ≡ ws
rising_alike vs ws rv rw' same =
    rising_same value_cmp value_total vs ws rv rw'
    (λ z at. has_stands ws z (sym (same z) ∙ stands_has vs z at.0 at.1)) (λ z at. has_stands vs z (same z ∙ stands_has ws z at.0 at.1))

-- ---- one value put in

pub insert_has : (v : Value) (ws : List Value) (z : Value) → has_value (insert_value v ws) z ≡ value_eq z v || has_value ws z
insert_has v [] z = refl
insert_has v (w ∷ ws) z = by_order (value_cmp v w) refl (insert_has v ws z)
  where
    by_order : (r : Ordering) → value_cmp v w ≡ r → has_value (insert_value v ws) z ≡ value_eq z v || has_value ws z → has_value (insert_value v (w ∷ ws)) z ≡ value_eq z v || (value_eq z w || has_value ws z)
    by_order Less is behind = rw is refl
    by_order Equal is behind = rw is (let same = value_same v w is in subst (λ u. value_eq z w || has_value ws z ≡ value_eq z u || (value_eq z w || has_value ws z)) (sym same) (or_again (value_eq z w) (has_value ws z)))
    by_order Greater is behind = rw is (ap (λ b. value_eq z w || b) behind ∙ or_swap (value_eq z w) (value_eq z v) (has_value ws z))

-- ---- several values put in

pub inserts_have : (vs ws : List Value) (z : Value) → has_value (insert_values vs ws) z ≡ has_value vs z || has_value ws z
inserts_have [] ws z = refl
inserts_have (v ∷ vs) ws z = inserts_have vs (insert_value v ws) z ∙ ap (λ b. has_value vs z || b) (insert_has v ws z) ∙ swap (has_value vs z) (value_eq z v) (has_value ws z)
  where
    swap : (a b c : Bool) → a || (b || c) ≡ (b || a) || c
    swap true true c = refl
    swap true false c = refl
    swap false true c = refl
    swap false false c = refl

or_nothing : (a : Bool) → a || false ≡ a
or_nothing true = refl
or_nothing false = refl

pub sorted_have : (vs : List Value) (z : Value) → has_value (sorted_values vs) z ≡ has_value vs z
sorted_have vs z = inserts_have vs [] z ∙ or_nothing (has_value vs z)

-- ---- both lists, and part of a list

or_later : (a b c : Bool) → a || (b || c) ≡ (a || b) || c
or_later true b c = refl
or_later false b c = refl

pub append_has : (vs ws : List Value) (z : Value) → has_value (vs ++ ws) z ≡ has_value vs z || has_value ws z
append_has [] ws z = refl
append_has (v ∷ vs) ws z = ap (λ b. value_eq z v || b) (append_has vs ws z) ∙ or_later (value_eq z v) (has_value vs z) (has_value ws z)

-- putting values into a list that rises sorts all of them
pub sorted_append : (vs ws : List Value) → Rises ws → sorted_values (vs ++ ws) ≡ insert_values vs ws
sorted_append vs ws rises =
    rising_alike (sorted_values (vs ++ ws)) (insert_values vs ws) (sorted_rise (vs ++ ws)) (inserts_rise vs ws rises)
    (λ z. sorted_have (vs ++ ws) z ∙ append_has vs ws z ∙ sym (inserts_have vs ws z))

-- what is kept by what it stands for stands for what is kept
pub map-filter : {X : Type 0} (meaning : X → Value) (test : Value → Bool) (xs : List X) → map meaning (filter (λ x. test (meaning x)) xs) ≡ filter test (map meaning xs)
map-filter meaning test [] = refl
map-filter meaning test (x ∷ xs) = either (test (meaning x)) refl (map-filter meaning test xs)
  where
    either : (b : Bool) → test (meaning x) ≡ b → map meaning (filter (λ x. test (meaning x)) xs) ≡ filter test (map meaning xs) → map meaning (filter (λ x. test (meaning x)) (x ∷ xs)) ≡ filter test (meaning x ∷ map meaning xs)
    either true is rest = rw is (ap (λ vs. meaning x ∷ vs) rest)
    either false is rest = rw is rest
