-- A loop that an account tells comes back.
use Rattle.std.proofs.Common.{◌≡◌, ◌⊎◌, Option, Some, None, inl, inr}
use Rattle.theory_syntax.specs.Process.{Assertion, Script}
use Rattle.theory_syntax.specs.Readings.{by_tau}
use Rattle.theory_semantics.specs.Meaning.Violations.{Violation}
use Rattle.theory_search.specs.Outcome.{Outcome, Holds, Fails, Unknown, Denied}
use Rattle.theory_runs.specs.Stuck.{Hindrance}
use Rattle.theory_explanation.specs.Accounts as pure
use Rattle.theory_explanation.specs.Faults.{hindrance}
use Rattle.theory_explanation.specs.Styles.{Style}
use Rattle.theory_explanation.specs.Telling.{IsAccount, TellsReplay, TellsSide, TellsSpread, TellsSpreadSide, TellsStuck, TellsViolation}
use Rattle.counterexample.proofs.LoopsOf.{goes_round}
use Rattle.explanation.specs.Accounts.{ComesRound, account_of}
use Rattle.explanation.specs.declared.account.Account.{Account}
use Rattle.explanation.specs.declared.account.Account.TheVariants as variant

module _ (A : Type 0) (style : Style) (script : Script) where
  bare_round : (account : Account A) → account_of account ≡ pure.Bare → ComesRound account
  bare_round variant.Bare is = tt
  bare_round (variant.Shown shown c) is = absurd (cc is)
  bare_round variant.WideEnd is = tt
  bare_round (variant.Stuck h run) is = tt

  replay_round : (a : Assertion) (v : Violation) (account : Account A) → TellsReplay style script a v (account_of account) → ComesRound account
  replay_round a v variant.Bare is = tt
  replay_round a v (variant.Shown shown c) is = goes_round A script v.evidence is.1.replay.end c.looping is.1.loop
  replay_round a v variant.WideEnd is = tt
  replay_round a v (variant.Stuck h run) is = tt

  spread_round : (written a : Assertion) (v : Violation) (account : Account A) → TellsSpread style script written a v (account_of account) → ComesRound account
  spread_round written a v variant.Bare is = tt
  spread_round written a v (variant.Shown shown c) is = goes_round A (by_tau script) v.evidence is.1.told.replay.end c.looping is.1.told.loop
  spread_round written a v variant.WideEnd is = tt
  spread_round written a v (variant.Stuck h run) is = tt

  violation_round : (written a : Assertion) (v : Violation) (account : Account A) → TellsViolation style script written a v (account_of account) → ComesRound account
  violation_round written a v account (inl spread) = spread_round written a v account spread
  violation_round written a v account (inr replay) = replay_round a v account replay

  -- a run to a stuck state has no loop
  side_round : (written a : Assertion) (h : Hindrance) (account : Account A) → TellsSpreadSide style script written a h (account_of account) ⊎ TellsSide style script a h (account_of account) → ComesRound account
  side_round written a h variant.Bare told = tt
  side_round written a h (variant.Shown shown c) (inl spread) = absurd spread
  side_round written a h (variant.Shown shown c) (inr side) = absurd side
  side_round written a h variant.WideEnd told = tt
  side_round written a h (variant.Stuck k run) told = tt

  stuck_round : (written a : Assertion) (o : Option Hindrance) (account : Account A) → TellsStuck style script written a o (account_of account) → ComesRound account
  stuck_round written a None account is = bare_round account is
  stuck_round written a (Some h) account is = side_round written a h account is

  pub comes_round : (written a : Assertion) (found : Outcome) (account : Account A) → IsAccount style script written a found (account_of account) → ComesRound account
  comes_round written a Holds account is = bare_round account is
  comes_round written a (Fails v) account is = violation_round written a v account is.1
  comes_round written a (Unknown why) account is = stuck_round written a (hindrance why) account is
  comes_round written a Denied account is = bare_round account is
