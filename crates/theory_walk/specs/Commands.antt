-- What a line of input asks for.
use Rattle.std.specs.Prelude.{ℕ, nat_eq, Bool, ◌||◌, if◌then◌else◌, List, [], ◌∷◌, codes, reverse}
use Rattle.std.specs.Cmp.Lexicographic.{pointwise}

-- to go back, to end, to see the state again, or to take the move that the text names
pub data Command : Type 0 where
  Back : Command
  End : Command
  Again : Command
  Take : (text : List ℕ) → Command

abbrev pub same : List ℕ → List ℕ → Bool
same text other = pointwise nat_eq text other

-- ---- what stands around a command

-- a space or a carriage return
abbrev pub is_blank : ℕ → Bool
is_blank byte = nat_eq byte 32 || nat_eq byte 13

abbrev pub without_blanks : List ℕ → List ℕ
without_blanks [] = []
without_blanks (byte ∷ text) = if is_blank byte then without_blanks text else byte ∷ text

-- without those before and behind the text
abbrev pub trimmed : List ℕ → List ℕ
trimmed text = reverse (without_blanks (reverse (without_blanks text)))

-- ---- commands

abbrev pub command_in : List ℕ → Command
command_in [] = Again
command_in (byte ∷ text) =
    if same (byte ∷ text) (codes "u") then Back else
    if same (byte ∷ text) (codes "q") then End else Take (byte ∷ text)

abbrev pub command_of : List ℕ → Command
command_of line = command_in (trimmed line)
