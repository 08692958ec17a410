-- Long texts, cut.
use Rattle.std.specs.Prelude.{ℕ, ◌-◌, List, ◌++◌, length, take, codes, decimal, nat_le, if◌then◌else◌}
use Rattle.std.specs.Str.{chars, encode_utf8_all}

-- how many characters of a text are told: all, or so many
pub data Width : Type 0 where
  Whole : Width
  UpTo : (most : ℕ) → Width

-- the first n characters of a text, and how many are left out, if any are
abbrev pub cut_after : ℕ → List ℕ → List ℕ
cut_after n text = if nat_le (length (chars text)) n then text
    else encode_utf8_all (take n (chars text)) ++ (codes " .. " ++ (decimal (length (chars text) - n) ++ codes " more characters"))

-- as much of a text as is told
abbrev pub cut : Width → List ℕ → List ℕ
cut Whole text = text
cut (UpTo n) text = cut_after n text
