-- Tokens and trees of small assertions, for the laws.
use Rattle.std.specs.Prelude.{◌≡◌, ℕ, true, false, List, [], ◌∷◌, ◌++◌, codes}
use Rattle.theory_syntax.specs.Process.{Traces}
use Rattle.theory_text.specs.Place.{Place, first_place}
use Rattle.theory_text.specs.Token.{Token, KeywordToken, SignToken, NameToken, PlacedToken, AssertWord, NotWord, TrueWord, StopWord, ColonSign, OpenSquareSign, CloseSquareSign, CloseRenamingSign, TracesSign, GuardSign, OpenRoundSign, CloseRoundSign, ArrowSign}
use Rattle.theory_text.specs.Raw.{RawTruth, RawProcess, RawStop, RawGuard, RawProperty, RawRefinementOf, RawAssertion, RawDeclaration, RawScript}
use Rattle.theory_text.specs.Grammar.{IsDeclaration}

abbrev pub at : Token → PlacedToken
at t = record { token = t; place = first_place; from = 0; to = 0 }

abbrev pub spelling : List ℕ → PlacedToken
spelling cs = at (NameToken cs)

abbrev pub assert_word : PlacedToken
assert_word = at (KeywordToken AssertWord)

abbrev pub stop_word : PlacedToken
stop_word = at (KeywordToken StopWord)

-- `:[deadlock free`, `[F]]` and `[F] ]`
abbrev pub deadlock_free_begun : List PlacedToken
deadlock_free_begun = at (SignToken ColonSign) ∷ at (SignToken OpenSquareSign) ∷ spelling (codes "deadlock") ∷ spelling (codes "free") ∷ []

abbrev pub joined_f : List PlacedToken
joined_f = at (SignToken OpenSquareSign) ∷ spelling (codes "F") ∷ at (SignToken CloseRenamingSign) ∷ []

abbrev pub spaced_f : List PlacedToken
spaced_f = at (SignToken OpenSquareSign) ∷ spelling (codes "F") ∷ at (SignToken CloseSquareSign) ∷ at (SignToken CloseSquareSign) ∷ []

-- `:[divergence free]`
abbrev pub divergence_free_end : List PlacedToken
divergence_free_end = at (SignToken ColonSign) ∷ at (SignToken OpenSquareSign) ∷ spelling (codes "divergence") ∷ spelling (codes "free") ∷ at (SignToken CloseSquareSign) ∷ []

-- `not true & STOP [T= STOP`
abbrev pub guarded_refinement : List PlacedToken
guarded_refinement =
    at (KeywordToken NotWord) ∷ at (KeywordToken TrueWord) ∷ at (SignToken GuardSign) ∷ stop_word ∷ at (SignToken TracesSign) ∷ stop_word ∷ []

-- the one assertion as a tree
abbrev pub of_stop : RawProperty → RawScript
of_stop a = RawAssertion first_place false a RawStop ∷ []

-- `assert not`, of `true & STOP [T= STOP`
abbrev pub not_guarded : RawScript
not_guarded = RawAssertion first_place true (RawRefinementOf Traces (RawGuard (RawTruth true) RawStop)) RawStop ∷ []

-- a declaration that begins with `assert` and `not` is a negated assertion
abbrev pub NotNegates : PlacedToken → PlacedToken → List PlacedToken → RawDeclaration → Type 0
NotNegates t u ts d =
    IsDeclaration (t ∷ u ∷ ts) d → t.token ≡ KeywordToken AssertWord → u.token ≡ KeywordToken NotWord →
    (place : Place) × (a : RawProperty) × (p : RawProcess) × (d ≡ RawAssertion place true a p)

-- `assert (((STOP))) :[deadlock free [F]] ->`
abbrev pub behind_both : List PlacedToken
behind_both = assert_word ∷ at (SignToken OpenRoundSign) ∷ at (SignToken OpenRoundSign) ∷ at (SignToken OpenRoundSign) ∷ stop_word
    ∷ at (SignToken CloseRoundSign) ∷ at (SignToken CloseRoundSign) ∷ at (SignToken CloseRoundSign)
    ∷ (deadlock_free_begun ++ joined_f ++ at (SignToken ArrowSign) ∷ [])
