-- How the name of a file is told.
use Rattle.std.specs.Prelude.{ℕ, List, [], ◌∷◌, codes, map}
use Rattle.std.specs.List.{concat}
use Rattle.std.specs.Str.{chars, encode_utf8_all}
use Rattle.diagnostics.specs.Excerpts.{shown_character}
use Rattle.program.specs.declared.files.Lack.{Lack}
use Rattle.program.specs.declared.files.Lack.TheVariants as lack

-- the name, with a space for each control character
abbrev pub shown_name : List ℕ → List ℕ
shown_name name = encode_utf8_all (map shown_character (chars name))

-- why it cannot be read, in words
abbrev pub lack_text : Lack → List ℕ
lack_text lack.Missing = codes "there is no such file"
lack_text lack.Folder = codes "it is a folder"
lack_text lack.Forbidden = codes "it may not be read"
lack_text lack.Broken = codes "it cannot be read"

-- what is told of a file that cannot be read, for this reason
abbrev pub unread_line : List ℕ → Lack → List ℕ
unread_line name why = concat (shown_name name ∷ codes ": refused file: " ∷ lack_text why ∷ codes "\n" ∷ [])
