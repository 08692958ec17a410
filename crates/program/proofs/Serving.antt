-- What a run answers, by what its words ask for.
use Rattle.std.proofs.Common.{◌≡◌, ◌↔◌, ◌<◌, ◌⊎◌, ℕ, Bool, true, false, IsTrue, List, [], Some, codes, inl, inr, refl, arith}
use Rattle.theory_syntax.specs.Process.{AtOnce}
use Rattle.settings.specs.CommandLine.{IsUsed, chosen, given}
use Rattle.settings.specs.Faults.{faults_of}
use Rattle.settings.specs.declared.settings.Settings.{Settings}
use Rattle.program.specs.Running.{AskForCheck, check_of, names_read}

-- names are unfolded at once where that is asked for
pub at_once_if : (asked : Bool) → (names_read asked ≡ AtOnce) ↔ IsTrue asked
at_once_if true = (λ e. refl, λ e. refl)
at_once_if false = (λ e. cc e, λ e. cc e)

-- the check that the settings of these words ask for
pub asked : (words : List (List ℕ)) (s : Settings) → faults_of words ≡ [] → s.max_pairs ≡ chosen (codes "max-pairs") 100000 words → s.max_nodes ≡ chosen (codes "max-nodes") 10000 words →
    IsTrue s.at_once ↔ IsUsed (codes "unfold") words → given (codes "file") words ≡ Some s.file.now → AskForCheck words s.file.now (check_of s)
asked words s taken pairs nodes used file =
    let read = at_once_if s.at_once in
    record { taken = taken; file = file; pairs = pairs; nodes = nodes; names = (λ e. used.0 (read.0 e), λ e. read.1 (used.1 e)) }

-- of the two statuses of a text, the one below that of a refusal
pub zero_below : (n : ℕ) → (n ≡ 0) ⊎ (n ≡ 3) → n < 3 → n ≡ 0
zero_below n (inl zero) below = zero
zero_below n (inr three) below = absurd (omega (arith, three, below))
