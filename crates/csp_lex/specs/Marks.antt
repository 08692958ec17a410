-- Signs and beginnings of comments, as the definitions have them.
use Rattle.std.specs.Prelude.{◌≡◌, ℕ, ◌≤◌, List, length, take, Some, None}
use Rattle.theory_text.specs.Spelling.{mark_of}
use Rattle.theory_text.specs.Token.{Lexeme, TokenLexeme, SignToken, ToLineEnd, ToMark}
use Rattle.csp_lex.specs.declared.marks.Mark.{Mark}
use Rattle.csp_lex.specs.declared.marks.Mark.TheVariants as mark
use Rattle.csp_lex.specs.declared.cursors.Cursor.{Cursor}
use Rattle.csp_lex.specs.Cursors.{left_of, Passes}
use Rattle.csp_lex.specs.Tokens.{sign_of}

abbrev pub lexeme_of : Mark → Lexeme
lexeme_of (mark.Sign s) = TokenLexeme (SignToken (sign_of s))
lexeme_of mark.LineComment = ToLineEnd
lexeme_of mark.BlockComment = ToMark

-- The next n characters are the mark.
pub record ReadsMark (n : ℕ) (old : Cursor) (mark : Mark) (new : Cursor) : Type 0 where
  pub front : List ℕ
  pub size : length front ≡ n
  pub passes : Passes old front new
  pub is_mark : mark_of front ≡ Some (lexeme_of mark)

-- The next n characters, if there are so many, are no mark.
abbrev pub HasNoMarkOf : ℕ → Cursor → Type 0
HasNoMarkOf n cursor = n ≤ length (left_of cursor) → mark_of (take n (left_of cursor)) ≡ None
