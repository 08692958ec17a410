-- The accounts that those of the code stand for.
use Rattle.std.specs.Prelude.{⊤, option_map}
use Rattle.theory_explanation.specs.Accounts as pure
use Rattle.verdict.specs.Outcome.{violation_of}
use Rattle.csp_replay.specs.Hindrance.{hindrance_of}
use Rattle.counterexample.specs.Counterexample.{GoesRound, counterexample_of}
use Rattle.explanation.specs.Sides.{side_run_of}
use Rattle.explanation.specs.declared.account.Account.{Account}
use Rattle.explanation.specs.declared.account.Account.TheVariants as variant

abbrev pub account_of : {A : Type 0} → Account A → pure.Account
account_of variant.Bare = pure.Bare
account_of (variant.Shown shown c) = pure.Shown (violation_of shown) (counterexample_of c)
account_of variant.WideEnd = pure.WideEnd
account_of (variant.Stuck h run) = pure.Stuck (hindrance_of h) (option_map side_run_of run)

-- a loop that is told comes back to one of its states
abbrev pub ComesRound : {A : Type 0} → Account A → Type 0
ComesRound variant.Bare = ⊤
ComesRound (variant.Shown shown c) = GoesRound c.looping
ComesRound variant.WideEnd = ⊤
ComesRound (variant.Stuck h run) = ⊤
