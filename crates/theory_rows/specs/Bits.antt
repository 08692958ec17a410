-- Acceptances as bits, one for each event that has a number, and one for tick.
use Rattle.std.specs.Prelude.{⊤, ◌≡◌, ◌<◌, ◌≤◌, ◌↔◌, ℕ, Bool, true, false, not, ◌&&◌, ◌||◌, IsTrue, IsFalse, get_or, length, List, [], ◌∷◌, nat_eq, Contains}
use Rattle.theory_syntax.specs.Value.{Action, Event, Tau, Tick, Ev, has_action}
use Rattle.csp_rows.specs.declared.numbers.ActionId.{ActionId}
use Rattle.csp_rows.specs.declared.numbers.ActionId.TheVariants as by_number
use Rattle.csp_rows.specs.Numbering.{AreBitsOf, Numbering, action_at}

-- whether tick is in it, and each event by its number
pub record Offer : Type 0 where
  pub tick : Bool
  pub events : List Bool

-- ---- one lies within another

abbrev pub first_bit : List Bool → Bool
first_bit [] = false
first_bit (b ∷ bs) = b

abbrev pub later_bits : List Bool → List Bool
later_bits [] = []
later_bits (b ∷ bs) = bs

abbrev pub is_subset : List Bool → List Bool → Bool
is_subset [] others = true
is_subset (b ∷ bs) others = (not b || first_bit others) && is_subset bs (later_bits others)

abbrev pub lies_within : Offer → Offer → Bool
lies_within a b = (not a.tick || b.tick) && is_subset a.events b.events

-- one of them does
abbrev pub some_lies_within : List Offer → Offer → Bool
some_lies_within [] o = false
some_lies_within (k ∷ ks) o = lies_within k o || some_lies_within ks o

-- ---- what they stand for

-- The bits are those of the actions of a list, which are tick and events that have numbers.
pub record IsOfferOf (z : Numbering) (o : Offer) (xs : List Action) : Type 0 where
  pub tick : o.tick ≡ has_action xs Tick
  pub events : AreBitsOf z (λ e. has_action xs (Ev e)) o.events
  pub few : length o.events ≤ z.events
  pub numbered : (e : Event) → IsTrue (has_action xs (Ev e)) → (n : ℕ) × (n < z.events) × (z.event n ≡ e)
  pub no_tau : IsFalse (has_action xs Tau)

abbrev pub AreOffersOf : Numbering → List Offer → List (List Action) → Type 0
AreOffersOf z [] [] = ⊤
AreOffersOf z (o ∷ os) (xs ∷ more) = IsOfferOf z o xs × AreOffersOf z os more
AreOffersOf z _ _ = ⊥

-- ---- the actions of steps

abbrev pub is_tick : ActionId → Bool
is_tick by_number.Tick = true
is_tick _ = false

abbrev pub is_event : ℕ → ActionId → Bool
is_event n (by_number.Event e) = nat_eq n e.0
is_event n _ = false

abbrev pub has_tick : List ActionId → Bool
has_tick [] = false
has_tick (x ∷ xs) = is_tick x || has_tick xs

abbrev pub has_number : List ActionId → ℕ → Bool
has_number [] n = false
has_number (x ∷ xs) n = is_event n x || has_number xs n

-- the bits are those of these actions, of which none is tau
pub record IsOfferBy (events : ℕ) (ids : List ActionId) (o : Offer) : Type 0 where
  pub tick : o.tick ≡ has_tick ids
  pub events_by : (n : ℕ) → n < events → get_or o.events n false ≡ has_number ids n
  pub few : length o.events ≤ events

-- the actions that the numbers stand for
abbrev pub AreActionsBy : Numbering → List ActionId → List Action → Type 0
AreActionsBy z ids xs = (x : Action) → IsTrue (has_action xs x) ↔ ((i : ActionId) × Contains ids i × (action_at z i ≡ x))
