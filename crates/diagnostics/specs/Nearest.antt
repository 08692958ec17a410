-- The name that is spelled most like a word.
use Rattle.std.specs.Prelude.{ℕ, ◌/◌, ◌<◌, ◌≤◌, All, Contains, List, length, min, nat_eq, Option, None, Some}
use Rattle.std.specs.Borrow.{Bor}
use Rattle.std.specs.Str.{chars}
use Rattle.strsim.specs.Edits.{levenshtein_row}

-- how many characters have to be put in, left out or exchanged
abbrev pub edits : List ℕ → List ℕ → ℕ
edits word name = levenshtein_row nat_eq (chars word) (chars name) (length (chars name))

-- how many there may be: at most two, and no more than half the word's length
abbrev pub most_edits : List ℕ → ℕ
most_edits word = min 2 (length (chars word) / 2)

-- No name is spelled much like the word; or this one is, and none is spelled more like it.
abbrev pub IsNearest : List ℕ → List (List ℕ) → Option (Bor (List ℕ)) → Type 0
IsNearest word names None = All (λ n. most_edits word < edits word n) names
IsNearest word names (Some name) =
    Contains names name.now × (edits word name.now ≤ most_edits word) × All (λ n. edits word name.now ≤ edits word n) names
