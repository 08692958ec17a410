-- Brackets, and spaces that keep tokens apart.
use Rattle.std.specs.Prelude.{ℕ, Bool, true, false, List, [], ◌++◌, codes}

-- a text that stands bare, or in brackets
abbrev pub bare_or_bracketed : Bool → List ℕ → List ℕ
bare_or_bracketed true text = text
bare_or_bracketed false text = codes "(" ++ (text ++ codes ")")

-- A space keeps a text that begins with `-` from `{`, `<` and `-`, since `{-` and `--` begin comments, and `<-` is a sign.
abbrev pub gap : Bool → List ℕ
gap true = codes " "
gap false = []
