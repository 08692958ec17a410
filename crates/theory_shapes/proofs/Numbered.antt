-- The events of a checked script rise, so each has a number of its own.
use Rattle.std.proofs.Common.{◌≡◌, ◌≢◌, ℕ, zero, suc, ◌<◌, Bool, true, false, nat_eq, List, [], ◌∷◌, length, get_or, refl, sym, ap, ◌∙◌, arith}
use Rattle.std.proofs.lemmas.Bool.{eq-eqb, eqb-true}
use Rattle.std.proofs.lemmas.Option.{slice_get-get_or}
use Rattle.std.specs.List.{AllByRecursion}
use Rattle.std.specs.Ordering.{is_eq}
use Rattle.theory_syntax.specs.Value.{Event, Value, event_cmp, event_eq, value_cmp}
use Rattle.theory_syntax.specs.Process.{Script}
use Rattle.theory_syntax.specs.Types.{Types}
use Rattle.theory_syntax.proofs.Equalities.{event_refl, is_eq-reverse}
use Rattle.theory_syntax.proofs.Orders.{event_total}
use Rattle.theory_semantics.specs.Kinds.Kind.{Each, InTurn, Kind, Kinds}
use Rattle.theory_semantics.specs.Kinds.Scripts.{IsCheckedScript, SetsHaveTheirKinds}
use Rattle.theory_semantics.specs.Meaning.Offers.{RisesBy}
use Rattle.theory_semantics.proofs.KindedValues.{sets_rise}
use Rattle.theory_semantics.proofs.Rising.{first_least, rises_behind}
use Rattle.theory_shapes.specs.Alphabet.{FieldSetsRise, alphabet}
use Rattle.theory_shapes.proofs.Rising.{rises}

each_all : {X : Type 0} (P : X → Type 0) (xs : List X) → Each P xs → AllByRecursion P xs
each_all P [] all = tt
each_all P (x ∷ xs) all = (all.0, each_all P xs all.1)

-- the sets of the fields of channels have kinds, and so they rise
channels_rise : (types : Types) (kinds : Kinds) (channels : List (List (List Value))) (ks : List (List Kind)) → InTurn (SetsHaveTheirKinds types kinds) channels ks → AllByRecursion (λ sets. AllByRecursion (RisesBy value_cmp) sets) channels
channels_rise types kinds [] [] all = tt
channels_rise types kinds [] (k ∷ ks) all = absurd all
channels_rise types kinds (sets ∷ more) [] all = absurd all
channels_rise types kinds (sets ∷ more) (k ∷ ks) all = (each_all (RisesBy value_cmp) sets (sets_rise types kinds sets k all.0), channels_rise types kinds more ks all.1)

pub field_sets_rise : (script : Script) → IsCheckedScript script → FieldSetsRise script
field_sets_rise script (kinds, good) = channels_rise script.types kinds script.channels kinds.channels good.sets.channels

pub checked_rises : (script : Script) → IsCheckedScript script → RisesBy event_cmp (alphabet script)
checked_rises script good = rises script (field_sets_rise script good)

-- ---- places in a list that rises

differ : (n m : ℕ) → n ≢ m → nat_eq n m ≡ false
differ n m away = by_test (nat_eq n m) refl
  where
    by_test : (b : Bool) → nat_eq n m ≡ b → b ≡ false
    by_test true e = absurd (away (eqb-true n m e))
    by_test false e = refl

one_more : (n m : ℕ) → nat_eq n m ≡ nat_eq (suc n) (suc m)
one_more n m = by_test (nat_eq n m) refl
  where
    by_test : (b : Bool) → nat_eq n m ≡ b → b ≡ nat_eq (suc n) (suc m)
    by_test true e = sym (eq-eqb (suc n) (suc m) (ap suc (eqb-true n m e)))
    by_test false e = sym (differ (suc n) (suc m) (λ same. let f : n ≡ m = omega (arith, same) in let g : true ≡ false = sym (eq-eqb n m f) ∙ e in cc g))

pub apart : (d : Event) (xs : List Event) → RisesBy event_cmp xs → (n m : ℕ) → n < length xs → m < length xs → event_eq (get_or xs n d) (get_or xs m d) ≡ nat_eq n m
apart d [] rise n m lo hi = absurd (omega (arith, lo))
apart d (x ∷ xs) rise zero zero lo hi = event_refl x ∙ sym (eq-eqb 0 0 refl)
apart d (x ∷ xs) rise zero (suc m) lo hi =
    let less = first_least event_cmp event_total x xs rise m (get_or xs m d) (slice_get-get_or xs m d (omega (arith, hi))) in
    ap is_eq less ∙ sym (differ 0 (suc m) (λ same. omega (arith, same)))
apart d (x ∷ xs) rise (suc n) zero lo hi =
    let y = get_or xs n d in
    let less = first_least event_cmp event_total x xs rise n y (slice_get-get_or xs n d (omega (arith, lo))) in
    ap is_eq (event_total.antisymm y x) ∙ is_eq-reverse (event_cmp x y) ∙ ap is_eq less ∙ sym (differ (suc n) 0 (λ same. omega (arith, same)))
apart d (x ∷ xs) rise (suc n) (suc m) lo hi = apart d xs (rises_behind event_cmp x xs rise) n m (omega (arith, lo)) (omega (arith, hi)) ∙ one_more n m

pub events_apart : (script : Script) → IsCheckedScript script → (n m : ℕ) (d : Event) → n < length (alphabet script) → m < length (alphabet script) → event_eq (get_or (alphabet script) n d) (get_or (alphabet script) m d) ≡ nat_eq n m
events_apart script good n m d = apart d (alphabet script) (checked_rises script good) n m
