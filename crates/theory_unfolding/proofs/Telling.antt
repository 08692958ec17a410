-- What is told at once is so by tau.
use Rattle.std.proofs.Common.{◌≡◌, ℕ, slice_get, Some}
use Rattle.theory_syntax.specs.Process.{Assertion, Script}
use Rattle.theory_semantics.specs.Meaning.Evaluation.{Cause}
use Rattle.theory_semantics.specs.Meaning.Transitions.{IsStuck, faulty, large}
use Rattle.theory_semantics.specs.Meaning.Runs.{SomeReachable}
use Rattle.theory_semantics.specs.Meaning.Violations.{Evidence}
use Rattle.theory_search.specs.Outcome.{LargeTerm, Fault}
use Rattle.theory_search.specs.Search.{Row, Search, EndedHolds, EndedFails, Stopped, violation_of}
use Rattle.theory_search.specs.Telling.{HoldsWithoutStuck}
use Rattle.theory_search.proofs.Searching.{lawful_sound}
use Rattle.theory_search.proofs.Concluding.{spec_none_stuck, sound_holds, sound_fails, sound_fault, sound_large}
use Rattle.theory_syntax.specs.Readings.{by_tau, at_once}
use Rattle.theory_unfolding.specs.Assertions.{SidesNeverStick, HasViolationLike}
use Rattle.theory_unfolding.proofs.Answering.{holds_same, violation_back}
use Rattle.theory_unfolding.proofs.Sticking.{sides_same, stuck_back}
use Rattle.theory_unfolding.specs.Told.{IsSearchAtOnce}
use Rattle.theory_syntax.specs.Process.{specification_of}

module _ (script : Script) (a : Assertion) (s : Search) (is : IsSearchAtOnce script a s) where
  pub holds_by_tau : s.verdict ≡ EndedHolds → HoldsWithoutStuck (by_tau script) a
  holds_by_tau holds =
      let h = sound_holds (at_once script) s (lawful_sound (at_once script) s is.lawful) holds in
      let sides : SidesNeverStick (at_once script) s.assertion = record { specification = h.1; implementation = h.2 } in
      let by = (sides_same script a s.assertion is.unfolded).0 sides in
      ((holds_same script a s.assertion is.unfolded sides).0 h.0, by.specification, by.implementation)

  pub fails_by_tau : (i : ℕ) → s.verdict ≡ EndedFails i → (r : Row) × (e : Evidence) × (slice_get s.rows i ≡ Some r) × HasViolationLike (by_tau script) a (violation_of s.rows r e)
  fails_by_tau i fails =
      let h = sound_fails (at_once script) s i (lawful_sound (at_once script) s is.lawful) fails in
      let none = spec_none_stuck (at_once script) (specification_of s.assertion.property) s.normal is.lawful.normal in
      (h.0, h.1, h.2, violation_back script a s.assertion (violation_of s.rows h.0 h.1) is.unfolded none h.4)

  sticks : SomeReachable (at_once script) s.assertion.implementation (IsStuck (at_once script)) → SomeReachable (by_tau script) a.implementation (IsStuck (by_tau script))
  sticks reached = stuck_back script a.implementation s.assertion.implementation is.unfolded.implementation reached

  pub fault_by_tau : (c : Cause) → s.verdict ≡ Stopped (Fault c) → SomeReachable (by_tau script) a.implementation (IsStuck (by_tau script))
  fault_by_tau c stopped = let h = sound_fault (at_once script) s c (lawful_sound (at_once script) s is.lawful) stopped in sticks (h.0, h.1, h.2, faulty c h.3)

  pub large_by_tau : s.verdict ≡ Stopped LargeTerm → SomeReachable (by_tau script) a.implementation (IsStuck (by_tau script))
  large_by_tau stopped = let h = sound_large (at_once script) s (lawful_sound (at_once script) s is.lawful) stopped in sticks (h.0, h.1, h.2, large h.3)
