-- What is told of an assertion.
use Rattle.std.specs.Prelude.{◌≡◌, ◌⊎◌, ℕ, suc, List, [], ◌∷◌, ◌++◌, Option, Some, None}
use Rattle.theory_syntax.specs.Process.{Script, Assertion}
use Rattle.theory_semantics.specs.Meaning.Violations.{IsViolation, Violation}
use Rattle.theory_search.specs.Answer.{as_written}
use Rattle.theory_search.specs.Outcome.{Outcome, Holds, Fails, Unknown, Denied}
use Rattle.theory_runs.specs.Stuck.{Hindrance}
use Rattle.theory_explanation.specs.Accounts.{Account, Bare, Shown, Stuck, WideEnd, told_text}
use Rattle.theory_explanation.specs.Counterexamples.{HasWideEnd, IsCounterexample, IsSpreadCounterexample, by_path}
use Rattle.theory_explanation.specs.Faults.{IsFound, IsSpreadSide, SideRun, hindrance}
use Rattle.theory_explanation.specs.Styles.{Style}

-- ---- of a violation

-- A counterexample of the violation is told; or of a divergence, that more states are to be looked at for its loop than are
-- looked at.
abbrev pub TellsReplay : Style → Script → Assertion → Violation → Account → Type 0
TellsReplay style script a v (Shown w c) = (w ≡ v) × IsCounterexample script a v style.most c
TellsReplay style script a v WideEnd = HasWideEnd script a v style.reach
TellsReplay style script a v account = ⊥

-- It is told where names are unfolded at once, by a run of the script as it is written.
abbrev pub TellsSpread : Style → Script → Assertion → Assertion → Violation → Account → Type 0
TellsSpread style script written a v (Shown w c) = (w ≡ by_path w.path v) × IsSpreadCounterexample script written.implementation a v style.most w.path c
TellsSpread style script written a v account = ⊥

-- The violation is told by a run of the script as it is written, where that is another one and such a run is found, and else as
-- names are read.
abbrev pub TellsViolation : Style → Script → Assertion → Assertion → Violation → Account → Type 0
TellsViolation style script written a v account = TellsSpread style script written a v account ⊎ TellsReplay style script a v account

-- ---- of a state that is stuck

-- a run of the side that has no answer
abbrev pub TellsSide : Style → Script → Assertion → Hindrance → Account → Type 0
TellsSide style script a h (Stuck k run) = (k ≡ h) × IsFound script a h style.reach run
TellsSide style script a h account = ⊥

-- such a run of the script as it is written, that spreads this one
abbrev pub TellsSpreadOf : Style → Script → Assertion → Assertion → Hindrance → SideRun → Option SideRun → Type 0
TellsSpreadOf style script written a h run (Some told) = IsFound script a h style.reach (Some run) × IsSpreadSide script written run told
TellsSpreadOf style script written a h run None = ⊥

abbrev pub TellsSpreadSide : Style → Script → Assertion → Assertion → Hindrance → Account → Type 0
TellsSpreadSide style script written a h (Stuck k told) = (k ≡ h) × ((run : SideRun) × TellsSpreadOf style script written a h run told)
TellsSpreadSide style script written a h account = ⊥

-- the one or the other, if a state that is stuck so is why there is no answer
abbrev pub TellsStuck : Style → Script → Assertion → Assertion → Option Hindrance → Account → Type 0
TellsStuck style script written a None account = account ≡ Bare
TellsStuck style script written a (Some h) account = TellsSpreadSide style script written a h account ⊎ TellsSide style script a h account

-- ---- of an assertion

-- The account is one of the assertion, which is written as the first one and asked as the second, and of the outcome that it has
-- but for a `not`: where that one is a violation, it is told, and where it is that a state is stuck, a run to such a state.
abbrev pub IsAccount : Style → Script → Assertion → Assertion → (found : Outcome) → Account → Type 0
IsAccount style script written a Holds account = account ≡ Bare
IsAccount style script written a (Fails v) account = IsViolation script a v × TellsViolation style script written a v account
IsAccount style script written a (Unknown why) account = TellsStuck style script written a (hindrance why) account
IsAccount style script written a Denied account = account ≡ Bare

-- The text tells of the assertion with this number and outcome, which is written as the first one and asked as the second:
-- behind its headline what is found but for a `not`, and an account of that.
abbrev pub IsTold : Style → Script → ℕ → Assertion → Assertion → Outcome → List ℕ → Type 0
IsTold style script n written a o text =
    (found : Outcome) × (account : Account) × (o ≡ as_written written.negated found) × IsAccount style script written a found account × (text ≡ told_text style script n written a found account)

-- The text tells of the assertions with these outcomes, one behind the other, numbered from n.
abbrev pub Tells : Style → Script → ℕ → List Assertion → List Outcome → List ℕ → Type 0
Tells style script n [] [] text = text ≡ []
Tells style script n [] (o ∷ os) text = ⊥
Tells style script n (a ∷ others) [] text = ⊥
Tells style script n (a ∷ others) (o ∷ os) text =
    (first : List ℕ) × (rest : List ℕ) × (text ≡ first ++ rest) × IsTold style script n a a o first × Tells style script (suc n) others os rest
