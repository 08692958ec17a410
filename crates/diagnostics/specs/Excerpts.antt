-- The line of a text at a place, with a mark under the place.
use Rattle.std.specs.Prelude.{ℕ, ◌-◌, false, List, [], ◌∷◌, codes, drop, if◌then◌else◌, map, nat_eq, replicate, slice_index_or, take}
use Rattle.std.specs.Char.{is_control}
use Rattle.std.specs.List.{concat, slice_split}
use Rattle.std.specs.Str.{chars, encode_utf8_all}
use Rattle.unicode_width.specs.Width.{str_width}
use Rattle.theory_text.specs.Place.{line_feed}
use Rattle.csp_lex.specs.declared.places.Place.{Place}

-- the line of a text with this number, from 1, without its line feed
abbrev pub line_of : List ℕ → ℕ → List ℕ
line_of text number = slice_index_or (slice_split (λ b. nat_eq b line_feed) text) (number - 1) []

-- a control character is shown as a space
abbrev pub shown_character : ℕ → ℕ
shown_character c = if is_control c then 32 else c

-- at most so many characters of a line, from this one on, as they are shown
abbrev pub shown_part : List ℕ → ℕ → ℕ → List ℕ
shown_part line first count = encode_utf8_all (map shown_character (take count (drop first (chars line))))

abbrev pub spaces : ℕ → List ℕ
spaces count = encode_utf8_all (replicate count 32)

-- the line, cut so that at most 60 of the 76 characters shown stand before the place, and a mark behind as many columns
-- as those before it take
abbrev pub marked : List ℕ → ℕ → List ℕ
marked line index =
    let first = index - 60 in
    let front = shown_part line first (index - first) in
    concat (codes "    " ∷ shown_part line first 76 ∷ codes "\n    " ∷ spaces (str_width false (chars front)) ∷ codes "^\n" ∷ [])

abbrev pub excerpt_of : List ℕ → Place → List ℕ
excerpt_of text p = marked (line_of text p.line) (p.column - 1)
