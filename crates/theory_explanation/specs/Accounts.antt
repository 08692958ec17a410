-- What is told of an answered assertion behind its headline: an opening by what is found, and an account of that.
use Rattle.std.specs.Prelude.{ℕ, Bool, true, false, List, [], ◌++◌, codes, Option}
use Rattle.theory_syntax.specs.Process.{Assertion, Script}
use Rattle.theory_semantics.specs.Meaning.Violations.{Violation}
use Rattle.theory_search.specs.Answer.{as_written}
use Rattle.theory_search.specs.Outcome.{Outcome, Holds, Fails, Unknown, Denied}
use Rattle.theory_runs.specs.Stuck.{Hindrance}
use Rattle.theory_explanation.specs.Comparing.{counterexample_text, wide_end_text}
use Rattle.theory_explanation.specs.Counterexamples.{Counterexample}
use Rattle.theory_explanation.specs.Faults.{SideRun, found_text}
use Rattle.theory_explanation.specs.Headline.{headline}
use Rattle.theory_explanation.specs.Reasons.{reason}
use Rattle.theory_explanation.specs.Styles.{Style}

-- What an explanation tells of what is found, beside the opening.
pub data Account : Type 0 where
  -- nothing
  Bare : Account
  -- a violation, by the path that it is told by, with what leads to it
  Shown : (violation : Violation) → (counterexample : Counterexample) → Account
  -- that a divergence has too many states at its end
  WideEnd : Account
  -- a run of a side to a state that is stuck by this, or that the specification has too many states for one
  Stuck : (hindrance : Hindrance) → (run : Option SideRun) → Account

-- ---- the text

-- what is told before it: of an assertion with a `not` that it fails, or holds, without it; and the reason why there is no
-- answer
abbrev pub failing_text : (negated : Bool) → List ℕ
failing_text true = codes "  without `not` it fails:\n"
failing_text false = []

abbrev pub holding_text : (negated : Bool) → List ℕ
holding_text true = codes "  without `not` it holds\n"
holding_text false = []

abbrev pub opening_text : (negated : Bool) → (found : Outcome) → List ℕ
opening_text negated Holds = holding_text negated
opening_text negated (Fails v) = failing_text negated
opening_text negated (Unknown why) = reason why
opening_text negated Denied = []

abbrev pub account_text : Style → Script → Account → List ℕ
account_text style script Bare = []
account_text style script (Shown v c) = counterexample_text style v c
account_text style script WideEnd = wide_end_text
account_text style script (Stuck h run) = found_text style script h run

-- All that is told of the assertion with this number, which is written as the first one and asked as the second, by the outcome
-- that it has but for a `not`, and the account of that.
abbrev pub told_text : Style → Script → ℕ → Assertion → Assertion → (found : Outcome) → Account → List ℕ
told_text style script n written a found account =
    headline style.names n written (as_written written.negated found) ++ (opening_text a.negated found ++ account_text style script account)
