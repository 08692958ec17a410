-- What is read of a file.
use Rattle.std.specs.Prelude.{◌≡◌, ℕ, List, take}

-- The bytes are one of the texts that the file may hold, or its first 65,537 bytes where that is longer.
pub record IsBeginning (may_hold : List ℕ → Type 0) (bytes : List ℕ) : Type 0 where
  pub text : List ℕ
  pub held : may_hold text
  pub is : bytes ≡ take 65537 text
