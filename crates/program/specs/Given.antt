-- What a run is given, and what comes of its outputs.
use Rattle.std.specs.Prelude.{◌≡◌, ℕ, Bool, List, Option}
use Rattle.program.specs.declared.files.Lack.{Lack}
use Rattle.program.specs.declared.stack.Stack.{Stack}

-- Files by their names, of each the texts that it may hold, and why it may be none that can be read; and the stack that is
-- there.
pub record Given : Type 1 where
  pub may_hold : List ℕ → List ℕ → Type 0
  pub may_lack : List ℕ → Lack → Type 0
  pub stack : Stack

abbrev pub given_of : {S : Type 0} → (S → List ℕ → List ℕ → Type 0) → (S → List ℕ → Lack → Type 0) → S → Stack → Given
given_of may_hold may_lack files stack = record { may_hold = may_hold files; may_lack = may_lack files; stack = stack }

-- An output before and after a run: the bytes that it has taken, where they are known, whether it has failed then, and
-- what says that nothing of it has changed.
pub record Sent : Type 1 where
  pub old : Option (List ℕ)
  pub new : Option (List ℕ)
  pub failed : Bool
  pub Unchanged : Type 0

abbrev pub sent : {S : Type 0} → (S → Option (List ℕ)) → (S → Bool) → S → S → Sent
sent taken has_failed old new = record { old = taken old; new = taken new; failed = has_failed new; Unchanged = new ≡ old }
