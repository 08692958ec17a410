-- What some characters begin with, as what reads them asks.
use Rattle.std.specs.Prelude.{◌≡◌, ℕ, Bool, true, false, List, [], ◌∷◌, ⊤}
use Rattle.std.specs.Char.{is_ascii_digit}
use Rattle.unicode_ident.specs.Ident.{is_xid_start}
use Rattle.theory_text.specs.Token.{is_white}

-- the first character, which is there, passes the test
abbrev pub StartsWith : (ℕ → Bool) → List ℕ → Type 0
StartsWith p [] = ⊥
StartsWith p (c ∷ cs) = p c ≡ true

-- the first character, if there is one, does not pass the test
abbrev pub StopsAt : (ℕ → Bool) → List ℕ → Type 0
StopsAt p [] = ⊤
StopsAt p (c ∷ cs) = p c ≡ false

-- The first character, if there is one, begins neither a name nor a number and is no white space.
abbrev pub StartsPlainly : List ℕ → Type 0
StartsPlainly cs = StopsAt is_xid_start cs × StopsAt is_ascii_digit cs × StopsAt is_white cs
