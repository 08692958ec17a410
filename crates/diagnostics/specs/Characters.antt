-- What may be meant by a character that begins no token.
use Rattle.std.specs.Prelude.{ℕ, List, [], ◌∷◌, Option, None, Some, cond, nat_eq}
use Rattle.diagnostics.specs.declared.characters.CharacterAdvice.{CharacterAdvice}

-- what the first row with the character says
abbrev pub character_advice : List CharacterAdvice → ℕ → Option (List ℕ)
character_advice [] character = None
character_advice (row ∷ rows) character = cond (nat_eq row.character character) (Some row.text.now) (character_advice rows character)
