-- A small script has its tree.
use Rattle.std.proofs.Common.{refl}
use Rattle.std.specs.Prelude.{ℕ, List, [], ◌∷◌, codes}
use Rattle.theory_text.specs.Place.{first_place}
use Rattle.theory_text.specs.Token.{Token, KeywordToken, SignToken, NameToken, NumberToken, PlacedToken, StopWord, ArrowSign, EqualsSign, OutputSign, BoxSign}
use Rattle.theory_text.specs.Raw.{RawName, RawNumber, RawGiven, RawStop, RawPrefix, RawInfix, ExternalInfix, RawEquation, RawScript}
use Rattle.theory_text.specs.Grammar.{word, sign, name, IsScript, no_declarations, declarations, equation, chain, two, prefix, base, stop, later_fields, output, no_fields, external_infix, IsAtom, IsNumber}

abbrev pub at : Token → PlacedToken
at t = record { token = t; place = first_place; from = 0; to = 0 }

abbrev pub named : List ℕ → RawName
named cs = record { spelling = cs; place = first_place }

-- `P = a!1 -> STOP [] STOP`
abbrev pub tokens : List PlacedToken
tokens = at (NameToken (codes "P")) ∷ at (SignToken EqualsSign) ∷ at (NameToken (codes "a")) ∷ at (SignToken OutputSign) ∷ at (NumberToken 1) ∷ at (SignToken ArrowSign) ∷ at (KeywordToken StopWord)
    ∷ at (SignToken BoxSign) ∷ at (KeywordToken StopWord) ∷ []

abbrev pub tree : RawScript
tree = RawEquation (named (codes "P")) [] (RawInfix ExternalInfix (RawPrefix (named (codes "a")) (RawGiven (RawNumber 1) ∷ []) RawStop) RawStop) ∷ []

pub is_tree : IsScript tokens tree
is_tree = declarations (equation (name (at (NameToken (codes "P"))) (codes "P") refl) (sign (at (SignToken EqualsSign)) refl)
    (chain (two (prefix (name (at (NameToken (codes "a"))) (codes "a") refl)
    (later_fields (output (sign (at (SignToken OutputSign)) refl) (IsAtom.number (IsNumber.number (at (NumberToken 1)) 1 refl)) no_fields))
    (sign (at (SignToken ArrowSign)) refl) (base (stop (word (at (KeywordToken StopWord)) refl))))
    (external_infix (sign (at (SignToken BoxSign)) refl)) (base (stop (word (at (KeywordToken StopWord)) refl)))))) no_declarations
