-- States that come round.
use Rattle.std.specs.Prelude.{◌≡◌, ℕ, List, ◌∷◌, [], ◌++◌, slice_get, Some}
use Rattle.theory_syntax.specs.Process.{Process}

-- the states, and behind them the one at the place again
abbrev pub ComeRound : List Process → ℕ → List Process → Type 0
ComeRound states back round = (again : Process) × (slice_get states back ≡ Some again) × (round ≡ states ++ again ∷ [])
