-- The lines of an input.
use Rattle.std.specs.Prelude.{◌≡◌, ◌≢◌, ⊤, ℕ, nat_eq, nat_lt, Bool, true, false, if◌then◌else◌, List, [], ◌∷◌, ◌++◌, codes, length, map, take, Option}
use Rattle.std.specs.Io.KnownBytes.{Consumes, IsAtEnd}

-- the byte before those of the first line
abbrev pub before_first : ℕ → List (List ℕ) → List (List ℕ)
before_first byte [] = (byte ∷ []) ∷ []
before_first byte (line ∷ lines) = (byte ∷ line) ∷ lines

-- The lines of bytes, without the ends of lines. Behind the last one there may be none.
abbrev pub lines_of : List ℕ → List (List ℕ)
lines_of [] = []
lines_of (byte ∷ bytes) = if nat_eq byte 10 then [] ∷ lines_of bytes else before_first byte (lines_of bytes)

-- A line of over 4,096 bytes stands for `?`, which names no step.
abbrev pub as_command : List ℕ → List ℕ
as_command line = if nat_lt 4096 (length line) then codes "?" else line

-- the commands that bytes have, a line each
abbrev pub commands_of : List ℕ → List (List ℕ)
commands_of bytes = map as_command (lines_of bytes)

-- ---- what was read

-- what an input has left before and after something is read of it, where that is known
pub record Left : Type 0 where
  pub old : Option (List ℕ)
  pub new : Option (List ℕ)

abbrev pub left : {S : Type 0} → (S → Option (List ℕ)) → S → S → Left
left remaining old new = record { old = remaining old; new = remaining new }

-- none of the bytes ends a line
abbrev pub IsWithin : List ℕ → Type 0
IsWithin [] = ⊤
IsWithin (byte ∷ bytes) = (byte ≢ 10) × IsWithin bytes

-- a line with its end, if it has one
abbrev pub with_end : Bool → List ℕ → List ℕ
with_end true line = line ++ 10 ∷ []
with_end false line = line

-- A line was read, with its end or as the last of the input, and so much of it is kept as tells which command it is.
pub record IsLineRead (input : Left) (kept : List ℕ) (has_end : Bool) : Type 0 where
  pub line : List ℕ
  pub within : IsWithin line
  pub beginning : kept ≡ take 4097 line
  pub read : Consumes input.old input.new (with_end has_end line)
  pub last : has_end ≡ false → IsAtEnd input.new

-- something was read, or nothing
abbrev pub IsSomeRead : Left → Type 0
IsSomeRead input = (bytes : List ℕ) × Consumes input.old input.new bytes
