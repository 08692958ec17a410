-- Divergence and deadlock.
use Rattle.std.specs.Prelude.{ℕ, ◌≢◌, [], replicate}
use Rattle.theory_syntax.specs.Value.{Tau}
use Rattle.theory_syntax.specs.Process.{Process, Omega, Script}
use Rattle.theory_semantics.specs.Meaning.Runs.{Run}
use Rattle.theory_semantics.specs.Meaning.Offers.{IsAcceptance}

-- t diverges where runs of taus from it are as long as one likes
abbrev pub Diverges : Script → Process → Type 0
Diverges script t = (n : ℕ) → (u : Process) × Run script t (replicate n Tau) u

-- t is deadlocked where it has not ended and can do nothing at all
abbrev pub IsDeadlocked : Script → Process → Type 0
IsDeadlocked script t = (t ≢ Omega) × IsAcceptance script t []
