-- Statements of the laws.
use Rattle.std.specs.Prelude.{◌≡◌, ◌⊎◌, ◌↔◌, IsTrue, None, replicate, List}
use Rattle.theory_syntax.specs.Value.{Action, Tau}
use Rattle.theory_syntax.specs.Process.{Process, Script}
use Rattle.theory_semantics.specs.Meaning.Limits.{fits}
use Rattle.theory_semantics.specs.Meaning.Faults.{cause_in}
use Rattle.theory_semantics.specs.Meaning.Transitions.{RuleStep, IsNotStuck, IsStuck}
use Rattle.theory_semantics.specs.Meaning.Runs.{Run, SomeReachable, NoneStuck}
use Rattle.theory_semantics.specs.Meaning.Offers.{IsStable, IsAcceptance}
use Rattle.theory_syntax.specs.Readings.{by_tau, at_once}
use Rattle.theory_unfolding.specs.Unfolded.{IsUnfoldedTo}

-- ---- steps

-- a term runs to what it is unfolded to by a tau for each call that is unfolded
abbrev pub TausUnfold : Script → Type 0
TausUnfold script = (t v : Process) (unfolded : IsUnfoldedTo script t v) → IsNotStuck (at_once script) v → Run (by_tau script) t (replicate unfolded.0 Tau) v

-- each step at once is one by tau, to a term that is unfolded to where it leads
abbrev pub StepsAtOnceAreSteps : Script → Type 0
StepsAtOnceAreSteps script = (t : Process) (x : Action) (u : Process) → RuleStep (at_once script) t x u → (w : Process) × RuleStep (by_tau script) t x w × IsUnfoldedTo script w u

-- each step by tau is the tau of a call that is unfolded already, or a step of what the term is unfolded to
abbrev pub StepsAreFollowed : Script → Type 0
StepsAreFollowed script = (t v : Process) (x : Action) (w : Process) → IsUnfoldedTo script t v → RuleStep (by_tau script) t x w →
    ((x ≡ Tau) × IsUnfoldedTo script w v) ⊎ ((u : Process) × RuleStep (at_once script) v x u × IsUnfoldedTo script w u)

-- ---- limits and causes

abbrev pub FitsBefore : Script → Type 0
FitsBefore script = (t v : Process) → IsUnfoldedTo script t v → IsTrue (fits v) → IsTrue (fits t)

abbrev pub HasNoCauseBefore : Script → Type 0
HasNoCauseBefore script = (t v : Process) → IsUnfoldedTo script t v → cause_in (at_once script) v ≡ None → cause_in (by_tau script) t ≡ None

abbrev pub IsNotStuckBefore : Script → Type 0
IsNotStuckBefore script = (t v : Process) → IsUnfoldedTo script t v → IsNotStuck (at_once script) v → IsNotStuck (by_tau script) t

-- a stuck term is reached in both readings or in none
abbrev pub StickTogether : Script → Type 0
StickTogether script = (t v : Process) → IsUnfoldedTo script t v →
    SomeReachable (at_once script) v (IsStuck (at_once script)) ↔ SomeReachable (by_tau script) t (IsStuck (by_tau script))

abbrev pub NeverStickTogether : Script → Type 0
NeverStickTogether script = (t v : Process) → IsUnfoldedTo script t v → NoneStuck (at_once script) v ↔ NoneStuck (by_tau script) t

-- ---- offers

-- a stable term has no call to unfold
abbrev pub StableTermsAreSettled : Script → Type 0
StableTermsAreSettled script = (t v : Process) → IsUnfoldedTo script t v → IsStable (by_tau script) t → t ≡ v

-- what a term accepts by tau, what it is unfolded to accepts at once
abbrev pub AcceptancesAreKept : Script → Type 0
AcceptancesAreKept script = (t v : Process) (xs : List Action) → IsUnfoldedTo script t v → IsNotStuck (at_once script) v → IsAcceptance (by_tau script) t xs → IsAcceptance (at_once script) v xs

-- and what a term accepts at once it accepts by tau
abbrev pub AcceptancesAreReal : Script → Type 0
AcceptancesAreReal script = (t : Process) (xs : List Action) → IsAcceptance (at_once script) t xs → IsAcceptance (by_tau script) t xs
