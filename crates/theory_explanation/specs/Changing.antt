-- What has changed in a text.
use Rattle.std.specs.Prelude.{ℕ, zero, suc, ◌-◌, ◌+◌, ◌==◌, List, [], ◌∷◌, ◌++◌, length, take, drop, reverse, codes, nat_eq, if◌then◌else◌}
use Rattle.std.specs.Cmp.Lexicographic.{pointwise}
use Rattle.std.specs.List.{common_prefix_len, slice_split}

-- what stands between the spaces of a text
abbrev pub words : List ℕ → List (List ℕ)
words text = slice_split (λ c. c == 32) text

-- how many words the two begin with alike
abbrev pub same_words : List (List ℕ) → List (List ℕ) → ℕ
same_words old new = common_prefix_len (pointwise nat_eq) old new

-- words, with a space before each, and between them
abbrev pub spaces_behind : List (List ℕ) → List ℕ
spaces_behind [] = []
spaces_behind (w ∷ ws) = codes " " ++ (w ++ spaces_behind ws)

abbrev pub spaced : List (List ℕ) → List ℕ
spaced [] = []
spaced (w ∷ ws) = w ++ spaces_behind ws

-- what stands for so many words that are left out before the others, and behind them
abbrev pub mark_before : ℕ → List ℕ
mark_before zero = []
mark_before (suc n) = codes ".. "

abbrev pub mark_behind : ℕ → List ℕ
mark_behind zero = []
mark_behind (suc n) = codes " .."

-- the words without so many at the front and so many at the end
abbrev pub middle_text : ℕ → ℕ → List (List ℕ) → List ℕ
middle_text front back ws = mark_before front ++ (spaced (take (length ws - (front + back)) (drop front ws)) ++ mark_behind back)

-- The words without those that are the same at the front and at the end, but for the nearest three.
abbrev pub changed_part : ℕ → List (List ℕ) → List (List ℕ) → List ℕ
changed_part front old new = middle_text (front - 3) (same_words (reverse (drop front old)) (reverse (drop front new)) - 3) new

abbrev pub changed_words : List (List ℕ) → List (List ℕ) → List ℕ
changed_words old new = changed_part (same_words old new) old new

-- what has changed in the text of a state since the one before
abbrev pub change_text : List ℕ → List ℕ → List ℕ
change_text old new = if pointwise nat_eq old new then codes ".." else changed_words (words old) (words new)
