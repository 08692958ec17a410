-- Where tokens stand, and which of them begin something.
use Rattle.std.specs.Prelude.{ℕ, Bool, true, false, ◌&&◌, ◌||◌, List, Option, length, nat_eq, nat_lt, not, reverse}
use Rattle.std.specs.List.{find, position}
use Rattle.std.specs.Option.{unwrap_or}
use Rattle.csp_lex.specs.declared.keywords.Keyword.TheVariants as keyword
use Rattle.csp_lex.specs.declared.kinds.Token.{Token}
use Rattle.csp_lex.specs.declared.kinds.TokenKind.{TokenKind}
use Rattle.csp_lex.specs.declared.kinds.TokenKind.TheVariants as kind
use Rattle.csp_lex.specs.declared.places.Place.{Place}
use Rattle.csp_lex.specs.declared.signs.Sign.TheVariants as sign

abbrev pub stands_before : Place → Place → Bool
stands_before p q = nat_lt p.line q.line || (nat_eq p.line q.line && nat_lt p.column q.column)

-- how many of the tokens stand before the place
abbrev pub front_length : List Token → Place → ℕ
front_length tokens place = unwrap_or (position (λ t. not (stands_before t.place place)) tokens) (length tokens)

-- `=`, `[T=`, `[F=`, or the keyword of a declaration
abbrev pub is_opening : TokenKind → Bool
is_opening (kind.Sign sign.Equals) = true
is_opening (kind.Sign sign.Traces) = true
is_opening (kind.Sign sign.Failures) = true
is_opening (kind.Keyword keyword.Datatype) = true
is_opening (kind.Keyword keyword.Nametype) = true
is_opening (kind.Keyword keyword.Channel) = true
is_opening (kind.Keyword keyword.Assert) = true
is_opening _ = false

abbrev pub last_opening : List Token → Option Token
last_opening tokens = find (λ t. is_opening t.kind) (reverse tokens)
