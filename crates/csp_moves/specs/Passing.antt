-- The events of a body that pass its operator, of those that lead to a target.
use Rattle.std.specs.Prelude.{◌≡◌, ◌↔◌, ◌⊎◌, Contains, IsTrue, List, Option, Some, None}
use Rattle.theory_syntax.specs.Value.{Ev, Event}
use Rattle.theory_syntax.specs.Process.{Process}
use Rattle.theory_semantics.specs.Meaning.Events.{or_itself}
use Rattle.csp_value.specs.Action.{event_of}
use Rattle.csp_events.specs.Imaging.{PairsRise, found_images}
use Rattle.csp_events.specs.declared.images.Images.{Images}
use Rattle.csp_events.specs.Testing.{AreSorted, listed_in, test_of}
use Rattle.csp_steps.specs.Answering.{Answered}
use Rattle.csp_moves.specs.declared.passing.Passing.{Passing}
use Rattle.csp_moves.specs.declared.passing.Passing.TheVariants as variant

-- the event is renamed to f, or is f itself, where it is not renamed
abbrev pub HasImage : {A : Type 0} → Images A → Event → Event → Type 0
HasImage images f e = Contains (or_itself e (found_images images e)) f

-- the event is hidden, or renamed to the one that is asked for
abbrev pub IsPassing : {A : Type 0} → Passing A → Event → Type 0
IsPassing (variant.Hidden test) e = IsTrue (test_of test e)
IsPassing (variant.Renamed images f) e = HasImage images (event_of f.now) e

-- what it lists rises, so that an event is found by halving
abbrev pub IsSearchable : {A : Type 0} → Passing A → Type 0
IsSearchable (variant.Hidden test) = AreSorted (listed_in test)
IsSearchable (variant.Renamed images f) = PairsRise images

-- the event of a step to the target
abbrev pub IsEventTo : Process → Answered → Option Event → Type 0
IsEventTo u b (Some e) = b ≡ (Ev e, Some u)
IsEventTo u b None = (e : Event) → ¬ (b ≡ (Ev e, Some u))

-- the event of one more step, where it leads to the target and passes
abbrev pub AddsPassing : Process → (Event → Type 0) → Answered → List Event → List Event → Type 0
AddsPassing u passes b es fs = (e : Event) → Contains fs e ↔ (Contains es e ⊎ ((b ≡ (Ev e, Some u)) × passes e))

-- the passing events of the steps to the target
abbrev pub ArePassing : Process → (Event → Type 0) → List Answered → List Event → Type 0
ArePassing u passes bs es = (e : Event) → Contains es e ↔ (Contains bs (Ev e, Some u) × passes e)
