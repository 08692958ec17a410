-- The events of the body by which hiding and renaming do a step.
use Rattle.std.specs.Prelude.{◌≡◌, ⊤, Bool, Contains, IsTrue, List, Option, Some, None, Result, Ok, Err}
use Rattle.theory_syntax.specs.Value.{Action, Ev, Event, Tau, Tick}
use Rattle.theory_syntax.specs.Process.{EventSet, Hiding, Process, Renaming, RenamingPair, Script}
use Rattle.theory_semantics.specs.Meaning.Evaluation.{Cause}
use Rattle.theory_semantics.specs.Meaning.Events.{event_test, images}
use Rattle.csp_events.specs.Imaging.{AreMade, PairsRise}
use Rattle.csp_events.specs.declared.images.Images.{Images}
use Rattle.theory_origins.specs.Ways.{AreEventsTo}

-- a tau of `P \ A` comes by hidden events of the body, to what is hidden in the target
abbrev pub AreHiddenEvents : Script → Process → EventSet → Action → Process → List Event → Type 0
AreHiddenEvents s p a Tau t es = (test : Event → Bool) → event_test s a ≡ Ok test → (u : Process) → t ≡ Hiding u a → AreEventsTo s p u (λ e. IsTrue (test e)) es
AreHiddenEvents s p a Tick t es = ⊤
AreHiddenEvents s p a (Ev f) t es = ⊤

-- an event of `P[[..]]` comes by those of the body that are renamed to it, to what is renamed in the target
abbrev pub AreRenamedEvents : Script → Process → List RenamingPair → Action → Process → List Event → Type 0
AreRenamedEvents s p rs Tau t es = ⊤
AreRenamedEvents s p rs Tick t es = ⊤
AreRenamedEvents s p rs (Ev f) t es = (u : Process) → t ≡ Renaming u rs → AreEventsTo s p u (λ e. Contains (images s rs e) f) es

-- what the pairs make of events, if they have a value
abbrev pub AreImagesIfAny : {A : Type 0} → Option (Images A) → Result (Event → List Event) Cause → Type 0
AreImagesIfAny (Some images) r = AreMade images r × PairsRise images
AreImagesIfAny None r = (c : Cause) × (r ≡ Err c)
