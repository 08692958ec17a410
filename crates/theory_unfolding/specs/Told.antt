-- What a search over names at once, and its outcome, tell of the script by tau.
use Rattle.std.specs.Prelude.{◌≡◌, ◌⊎◌, ⊤, ℕ, Bool, true, false, slice_get, Option, Some, None}
use Rattle.theory_syntax.specs.Process.{Assertion, Script}
use Rattle.theory_semantics.specs.Meaning.Violations.{Evidence}
use Rattle.theory_semantics.specs.Meaning.Transitions.{IsStuck}
use Rattle.theory_semantics.specs.Meaning.Runs.{SomeReachable}
use Rattle.theory_semantics.specs.Meaning.Evaluation.{Cause}
use Rattle.theory_search.specs.Outcome.{LargeTerm, Fault, Outcome, Holds, Fails, Unknown, Denied}
use Rattle.theory_search.specs.Search.{Row, Search, EndedHolds, EndedFails, Stopped, IsLawful, violation_of}
use Rattle.theory_search.specs.Telling.{HoldsWithoutStuck, HoldsSoundlyBy}
use Rattle.theory_search.specs.Truth.{SomeSideReaches}
use Rattle.theory_syntax.specs.Readings.{by_tau, at_once}
use Rattle.theory_unfolding.specs.Assertions.{IsUnfoldedAssertion, HasViolationLike}

-- a lawful search of what the assertion is unfolded to, with names at once
pub record IsSearchAtOnce (script : Script) (a : Assertion) (s : Search) : Type 0 where
  pub lawful : IsLawful (at_once script) s
  pub unfolded : IsUnfoldedAssertion script a s.assertion

-- where it ends and holds, the assertion holds by tau, and no side of it reaches a stuck term
abbrev pub HoldsByTau : Script → Type 0
HoldsByTau script = (a : Assertion) (s : Search) → IsSearchAtOnce script a s → s.verdict ≡ EndedHolds → HoldsWithoutStuck (by_tau script) a

-- where it fails, the row that it names keeps a violation, and there is one by tau with its trace and its evidence
abbrev pub FailsByTau : Script → Type 0
FailsByTau script = (a : Assertion) (s : Search) (i : ℕ) → IsSearchAtOnce script a s → s.verdict ≡ EndedFails i →
    (r : Row) × (e : Evidence) × (slice_get s.rows i ≡ Some r) × HasViolationLike (by_tau script) a (violation_of s.rows r e)

-- where it stops at a stuck term, one is reached by tau
abbrev pub SticksByTau : Script → Type 0
SticksByTau script = (a : Assertion) (s : Search) → IsSearchAtOnce script a s →
    ((c : Cause) → s.verdict ≡ Stopped (Fault c) → SomeReachable (by_tau script) a.implementation (IsStuck (by_tau script))) ×
    (s.verdict ≡ Stopped LargeTerm → SomeReachable (by_tau script) a.implementation (IsStuck (by_tau script)))

-- ---- outcomes

-- What an outcome says of the assertion by tau: that it holds, or a violation with the trace and the evidence that it has,
-- or that a side reaches a stuck term. Of too many pairs or nodes, and of refused memory, it says nothing.
abbrev pub IsTrueByTau : Script → Assertion → Outcome → Type 0
IsTrueByTau script a Holds = HoldsSoundlyBy a.negated (by_tau script) a
IsTrueByTau script a (Fails v) = HasViolationLike (by_tau script) a v
IsTrueByTau script a (Unknown LargeTerm) = SomeSideReaches (by_tau script) a (IsStuck (by_tau script))
IsTrueByTau script a (Unknown (Fault c)) = SomeSideReaches (by_tau script) a (IsStuck (by_tau script))
IsTrueByTau script a (Unknown why) = ⊤
IsTrueByTau script a Denied = HoldsWithoutStuck (by_tau script) a

-- the word of an outcome: that the assertion holds, that it fails, or none
abbrev pub word : Outcome → Option Bool
word Holds = Some true
word (Fails v) = Some false
word (Unknown why) = None
word Denied = Some false

-- two outcomes have one word, if both have one
abbrev pub HaveOneWord : Outcome → Outcome → Type 0
HaveOneWord o p = (word o ≡ None) ⊎ ((word p ≡ None) ⊎ (word o ≡ word p))
