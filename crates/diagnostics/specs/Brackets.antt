-- Brackets that are not closed.
use Rattle.std.specs.Prelude.{Bool, true, false, ◌-◌, List, [], ◌∷◌, ◌++◌, Option, if◌then◌else◌, length, slice_get, take}
use Rattle.csp_lex.specs.declared.kinds.Token.{Token}
use Rattle.csp_lex.specs.declared.kinds.TokenKind.{TokenKind}
use Rattle.csp_lex.specs.declared.kinds.TokenKind.TheVariants as kind
use Rattle.csp_lex.specs.declared.signs.Sign.TheVariants as sign

-- a round or curly bracket
abbrev pub opens : TokenKind → Bool
opens (kind.Sign sign.OpenRound) = true
opens (kind.Sign sign.OpenBrace) = true
opens (kind.Sign sign.OpenProductions) = true
opens _ = false

abbrev pub closes : TokenKind → Bool
closes (kind.Sign sign.CloseRound) = true
closes (kind.Sign sign.CloseBrace) = true
closes (kind.Sign sign.CloseProductions) = true
closes _ = false

-- what is open behind one more token
abbrev pub open_behind_one : List Token → Token → List Token
open_behind_one before t = if opens t.kind then before ++ t ∷ [] else (if closes t.kind then take (length before - 1) before else before)

-- The brackets that are open behind some tokens, where those were open before them. The innermost stands last.
abbrev pub open_behind : List Token → List Token → List Token
open_behind before [] = before
open_behind before (t ∷ ts) = open_behind (open_behind_one before t) ts

-- the innermost of those that are open behind some tokens
abbrev pub open_bracket : List Token → Option Token
open_bracket ts = slice_get (open_behind [] ts) (length (open_behind [] ts) - 1)
