-- What a step through a text passes over.
use Rattle.std.specs.Prelude.{◌≡◌, ℕ, ◌+◌, Bool, true, List, ◌++◌, length, codes}
use Rattle.std.specs.List.{list_all}
use Rattle.std.specs.Str.{chars}
use Rattle.theory_text.specs.Fronts.{StopsAt}
use Rattle.theory_text.specs.Place.{place_after, bytes_of}
use Rattle.theory_text.specs.Token.{Lexeme, IsLongest, IsFirstMark}
use Rattle.csp_lex.specs.declared.cursors.Cursor.{Cursor}
use Rattle.csp_lex.specs.Places.{place_of}

-- The characters left of the text.
abbrev pub left_of : Cursor → List ℕ
left_of cursor = chars cursor.rest.now

-- The new cursor stands behind these characters, which are the next ones at the old.
pub record Passes (old : Cursor) (cs : List ℕ) (new : Cursor) : Type 0 where
  pub characters : left_of old ≡ cs ++ left_of new
  pub place : place_of new.place ≡ place_after (place_of old.place) cs
  pub offset : new.offset ≡ old.offset + bytes_of cs

-- The new cursor stands behind all those next characters that pass the test.
pub record RunsOver (p : ℕ → Bool) (old new : Cursor) : Type 0 where
  pub run : List ℕ
  pub passes : Passes old run new
  pub all : list_all p run ≡ true
  pub stops : StopsAt p (left_of new)

-- The longest lexeme that stands next is this one, and the new cursor stands behind it.
pub record Begins (old : Cursor) (x : Lexeme) (new : Cursor) : Type 0 where
  pub front : List ℕ
  pub passes : Passes old front new
  pub longest : IsLongest (left_of old) (length front) x

-- The new cursor stands behind the next mark `-}` that ends a comment.
pub record EndsComment (old new : Cursor) : Type 0 where
  pub body : List ℕ
  pub passes : Passes old (body ++ codes "-}") new
  pub first : IsFirstMark (left_of old) (length body)
