-- Pieces of a text, as the reader finds them.
use Rattle.std.specs.Prelude.{ℕ, List, length, Option}
use Rattle.std.specs.Option.{option_map}
use Rattle.theory_text.specs.Token.{IsPiece}
use Rattle.csp_lex.specs.declared.cursors.Cursor.{Cursor}
use Rattle.csp_lex.specs.declared.kinds.TokenKind.{TokenKind}
use Rattle.csp_lex.specs.Cursors.{left_of, Passes}
use Rattle.csp_lex.specs.Tokens.{token_of}

-- The next piece is a token of this kind, or no token, and the new cursor stands behind it.
pub record ReadsPiece (old : Cursor) (kind : Option TokenKind) (new : Cursor) : Type 0 where
  pub front : List ℕ
  pub passes : Passes old front new
  pub piece : IsPiece (left_of old) (length front) (option_map (λ k. token_of k front) kind)
