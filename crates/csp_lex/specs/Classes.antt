-- Classes of characters.
use Rattle.std.specs.Prelude.{ℕ, Bool, true, not, nat_eq}
use Rattle.std.specs.Char.{is_ascii_digit}
use Rattle.unicode_ident.specs.Ident.{is_xid_continue}
use Rattle.theory_text.specs.Place.{line_feed}
use Rattle.csp_lex.specs.declared.classes.Class.{Class}
use Rattle.csp_lex.specs.declared.classes.Class.TheVariants.{Continuing, Prime, Digit, WithinLine, Any}

-- whether a character is of a class
abbrev pub class_test : Class → ℕ → Bool
class_test Continuing = is_xid_continue
class_test Prime = λ c. nat_eq c 39
class_test Digit = is_ascii_digit
class_test WithinLine = λ c. not (nat_eq c line_feed)
class_test Any = λ c. true
