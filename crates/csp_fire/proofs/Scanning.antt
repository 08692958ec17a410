-- Looking through a list for an item that passes a test.
use Rattle.std.proofs.Common.{◌≡◌, ℕ, ◌+◌, ◌<◌, ◌||◌, Bool, true, false, List, length, map, drop, get_or, refl, sym, ◌∙◌, ap}
use Rattle.std.specs.List.{list_any}
use Rattle.csp_value.specs.declared.action.Action.{Action}
use Rattle.csp_value.specs.declared.action.Action.TheVariants as variant
use Rattle.csp_value.specs.Action.{action_of}
use Rattle.csp_fire.specs.Offering.{is_tau, is_tick}
use Rattle.theory_syntax.proofs.Places.{cut}

module _ {X Y : Type 0} (meaning : X → Y) (test : Y → Bool) (xs : List X) (i : ℕ) (x : X) where
  -- what is left decides
  abbrev pub Rests : Type 0
  Rests = list_any test (map meaning (drop i xs)) ≡ list_any test (map meaning xs)

  looked : i < length xs → x ≡ get_or xs i x → Rests → test (meaning x) || list_any test (map meaning (drop (i + 1) xs)) ≡ list_any test (map meaning xs)
  looked within read rests = ap (λ ys. list_any test (map meaning ys)) (cut xs i x within read) ∙ rests

  -- the item passes
  pub found_here : i < length xs → x ≡ get_or xs i x → Rests → test (meaning x) ≡ true → true ≡ list_any test (map meaning xs)
  found_here within read rests is = sym (ap (λ b. b || list_any test (map meaning (drop (i + 1) xs))) is) ∙ looked within read rests

  -- it does not
  pub found_later : i < length xs → x ≡ get_or xs i x → Rests → test (meaning x) ≡ false → list_any test (map meaning (drop (i + 1) xs)) ≡ list_any test (map meaning xs)
  found_later within read rests is = sym (ap (λ b. b || list_any test (map meaning (drop (i + 1) xs))) is) ∙ looked within read rests

module _ {A : Type 0} where
  pub not_tau : (x : Action A) → (x ≡ variant.Tau → ⊥) → is_tau (action_of x) ≡ false
  not_tau variant.Tau differs = absurd (differs refl)
  not_tau variant.Tick differs = refl
  not_tau (variant.Event e) differs = refl

  pub not_tick : (x : Action A) → (x ≡ variant.Tick → ⊥) → is_tick (action_of x) ≡ false
  not_tick variant.Tau differs = refl
  not_tick variant.Tick differs = absurd (differs refl)
  not_tick (variant.Event e) differs = refl
