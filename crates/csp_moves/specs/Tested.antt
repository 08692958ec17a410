-- The test that a set of events is, if it is one.
use Rattle.std.specs.Prelude.{◌≡◌, Bool, Option, Some, None, Result, Ok, Err}
use Rattle.theory_syntax.specs.Value.{Event}
use Rattle.theory_semantics.specs.Meaning.Evaluation.{Cause}
use Rattle.csp_events.specs.Testing.{AreSorted, listed_in, test_of}
use Rattle.csp_events.specs.declared.event_test.EventTest.{EventTest}

abbrev pub IsTestIfAny : {A : Type 0} → Option (EventTest A) → Result (Event → Bool) Cause → Type 0
IsTestIfAny (Some test) r = (r ≡ Ok (test_of test)) × AreSorted (listed_in test)
IsTestIfAny None r = (c : Cause) × (r ≡ Err c)
