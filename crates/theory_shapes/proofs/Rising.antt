-- The alphabet rises where the field sets do.
use Rattle.std.proofs.Common.{◌≡◌, ℕ, ◌<◌, ◌≤◌, suc, List, [], ◌∷◌, ◌++◌, map, Some, slice_get, refl, sym, ap, ◌∙◌, arith}
use Rattle.std.specs.Prelude.{IsTrue}
use Rattle.std.specs.Cmp.{nat_cmp_is}
use Rattle.std.specs.Cmp.Lexicographic.{slice_cmp}
use Rattle.std.specs.List.{AllByRecursion}
use Rattle.std.specs.Ordering.{is_lt, ordering_then}
use Rattle.std.specs.declared.cmp.Ordering.{Ordering}
use Rattle.std.specs.declared.cmp.Ordering.TheVariants.{Less, Equal}
use Rattle.theory_syntax.specs.Value.{Value, Event, event_cmp, value_cmp}
use Rattle.theory_syntax.specs.Process.{Script}
use Rattle.theory_syntax.proofs.Equalities.{value_refl}
use Rattle.theory_syntax.proofs.Orders.{value_total}
use Rattle.theory_semantics.specs.Meaning.Offers.{RisesBy}
use Rattle.theory_semantics.proofs.Rising.{first_least, rises_behind}
use Rattle.theory_shapes.specs.Alphabet.{FieldSetsRise, alphabet, each_before, events_from, field_lists, with_fields}
use Rattle.theory_shapes.proofs.Results.{all_append, all_made}
use Rattle.theory_shapes.proofs.Listing.{all_map}

-- ---- lists that rise

abbrev IsLess : {X : Type 0} → (X → X → Ordering) → X → X → Type 0
IsLess R x y = IsTrue (is_lt (R x y))

rises_append : {X : Type 0} (R : X → X → Ordering) (xs ys : List X) → RisesBy R xs → RisesBy R ys → AllByRecursion (λ x. AllByRecursion (IsLess R x) ys) xs → RisesBy R (xs ++ ys)
rises_append R [] ys first second all = second
rises_append R (x ∷ []) [] first second all = tt
rises_append R (x ∷ []) (y ∷ ys) first second all = (all.0.0, second)
rises_append R (x ∷ z ∷ xs) ys first second all = (first.0, rises_append R (z ∷ xs) ys first.1 second all.1)

rises_map : {X Y : Type 0} (R : X → X → Ordering) (S : Y → Y → Ordering) (f : X → Y) → ((x y : X) → IsLess R x y → IsLess S (f x) (f y)) → (xs : List X) → RisesBy R xs → RisesBy S (map f xs)
rises_map R S f keeps [] rise = tt
rises_map R S f keeps (x ∷ []) rise = tt
rises_map R S f keeps (x ∷ y ∷ ys) rise = (keeps x y rise.0, rises_map R S f keeps (y ∷ ys) rise.1)

all_read : {X : Type 0} (P : X → Type 0) (xs : List X) → ((i : ℕ) (x : X) → slice_get xs i ≡ Some x → P x) → AllByRecursion P xs
all_read P [] each = tt
all_read P (x ∷ xs) each = (each 0 x refl, all_read P xs (λ i y e. each (suc i) y e))

-- ---- lists of fields

abbrev fields_cmp : List Value → List Value → Ordering
fields_cmp = slice_cmp value_cmp

-- the first of two lists that begin differently, and of two that begin alike
less_at_once : (v w : Value) (l m : List Value) → value_cmp v w ≡ Less → IsLess fields_cmp (v ∷ l) (w ∷ m)
less_at_once v w l m e = ap (λ r. is_lt (ordering_then r (fields_cmp l m))) e

less_behind : (v : Value) (l m : List Value) → IsLess fields_cmp l m → IsLess fields_cmp (v ∷ l) (v ∷ m)
less_behind v l m h = ap (λ r. is_lt (ordering_then r (fields_cmp l m))) (value_refl v) ∙ h

before_greater : (v : Value) (l : List Value) (vs : List Value) (lists : List (List Value)) → AllByRecursion (λ w. value_cmp v w ≡ Less) vs → AllByRecursion (IsLess fields_cmp (v ∷ l)) (each_before vs lists)
before_greater v l [] lists all = tt
before_greater v l (w ∷ ws) lists all =
    all_append (IsLess fields_cmp (v ∷ l)) (map (λ m. w ∷ m) lists) (each_before ws lists) (with_each lists) (before_greater v l ws lists all.1)
  where
    with_each : (ms : List (List Value)) → AllByRecursion (IsLess fields_cmp (v ∷ l)) (map (λ m. w ∷ m) ms)
    with_each ms = all_map (IsLess fields_cmp (v ∷ l)) (λ m. w ∷ m) ms (all_read (λ m. IsLess fields_cmp (v ∷ l) (w ∷ m)) ms (λ i m e. less_at_once v w l m all.0))

before_rises : (set : List Value) (lists : List (List Value)) → RisesBy value_cmp set → RisesBy fields_cmp lists → RisesBy fields_cmp (each_before set lists)
before_rises [] lists rise each = tt
before_rises (v ∷ vs) lists rise each =
    let greater = all_read (λ w. value_cmp v w ≡ Less) vs (first_least value_cmp value_total v vs rise) in
    rises_append fields_cmp (map (λ l. v ∷ l) lists) (each_before vs lists) (rises_map fields_cmp fields_cmp (λ l. v ∷ l) (less_behind v) lists each) (before_rises vs lists (rises_behind value_cmp v vs rise) each)
    (all_map (λ x. AllByRecursion (IsLess fields_cmp x) (each_before vs lists)) (λ l. v ∷ l) lists (all_read (λ l. AllByRecursion (IsLess fields_cmp (v ∷ l)) (each_before vs lists)) lists (λ i l e. before_greater v l vs lists greater)))

lists_rise : (sets : List (List Value)) → AllByRecursion (RisesBy value_cmp) sets → RisesBy fields_cmp (field_lists sets)
lists_rise [] all = tt
lists_rise (set ∷ sets) all = before_rises set (field_lists sets) all.0 (lists_rise sets all.1)

-- ---- channels

same_channel : (c : ℕ) (l m : List Value) → IsLess fields_cmp l m → IsLess event_cmp (record { channel = c; fields = l }) (record { channel = c; fields = m })
same_channel c l m h = ap (λ r. is_lt (ordering_then r (fields_cmp l m))) (sym (nat_cmp_is c c Equal refl)) ∙ h

lower_channel : (e f : Event) → e.channel < f.channel → IsLess event_cmp e f
lower_channel e f lt = ap (λ r. is_lt (ordering_then r (fields_cmp e.fields f.fields))) (sym (nat_cmp_is e.channel f.channel Less lt))

channels_from : (c : ℕ) (more : List (List (List Value))) → AllByRecursion (λ e. c ≤ e.channel) (events_from c more)
channels_from c [] = tt
channels_from c (sets ∷ more) =
    all_append (λ e. c ≤ e.channel) (with_fields c (field_lists sets)) (events_from (suc c) more)
    (all_map (λ e. c ≤ e.channel) (λ vs. record { channel = c; fields = vs }) (field_lists sets) (all_read (λ vs. c ≤ c) (field_lists sets) (λ i vs e. omega arith)))
    (all_made (λ e. suc c ≤ e.channel) (λ e. c ≤ e.channel) (λ e h. omega (arith, h)) (events_from (suc c) more) (channels_from (suc c) more))

channels_rise : (c : ℕ) (channels : List (List (List Value))) → AllByRecursion (λ sets. AllByRecursion (RisesBy value_cmp) sets) channels → RisesBy event_cmp (events_from c channels)
channels_rise c [] all = tt
channels_rise c (sets ∷ more) all =
    let first = with_fields c (field_lists sets) in
    let rest = events_from (suc c) more in
    rises_append event_cmp first rest (rises_map fields_cmp event_cmp (λ vs. record { channel = c; fields = vs }) (same_channel c) (field_lists sets) (lists_rise sets all.0)) (channels_rise (suc c) more all.1)
    (all_map (λ e. AllByRecursion (IsLess event_cmp e) rest) (λ vs. record { channel = c; fields = vs }) (field_lists sets)
    (all_read (λ vs. AllByRecursion (IsLess event_cmp (record { channel = c; fields = vs })) rest) (field_lists sets)
    (λ i vs e. all_made (λ f. suc c ≤ f.channel) (IsLess event_cmp (record { channel = c; fields = vs })) (λ f h. lower_channel (record { channel = c; fields = vs }) f (omega (arith, h))) rest (channels_from (suc c) more))))

pub rises : (script : Script) → FieldSetsRise script → RisesBy event_cmp (alphabet script)
rises script all = channels_rise 0 script.channels all
