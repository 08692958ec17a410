-- Spellings as the texts that they are.
use Rattle.std.specs.Prelude.{ℕ, List, map}
use Rattle.std.specs.List.{AllByRecursion}
use Rattle.std.specs.Borrow.{Bor}
use Rattle.std.specs.Str.{chars, IsUtf8}

-- the characters of each
abbrev pub spelled : List (Bor (List ℕ)) → List (List ℕ)
spelled ss = map (λ s. chars s.now) ss

-- the bytes of each are a text
abbrev pub AreTexts : List (Bor (List ℕ)) → Type 0
AreTexts ss = AllByRecursion (λ s. IsUtf8 s.now) ss
