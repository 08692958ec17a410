-- The declared names of a tree as the rows of one list, each with what it means.
use Rattle.std.specs.Prelude.{◌≡◌, ⊤, ℕ, suc, cond, List, [], ◌∷◌, length, map, Option, Some, None}
use Rattle.std.specs.Str.{bytes_eq}
use Rattle.theory_text.specs.Raw.{RawName, RawDeclaration, RawDatatype, RawNametype, RawChannels, RawEquation, RawAssertion, RawScript}
use Rattle.theory_checking.specs.Names.{Class, DatatypeName, ConstructorName, NametypeName, ChannelName, EquationName, clause_names, Meaning, Declared, names_of, number_in}
use Rattle.theory_checking.specs.Sets.{in_order}

-- a spelling, and what it means
abbrev pub Row : Type 0
Row = List ℕ × Meaning

-- the rows of names of a class, of which the first has this number
abbrev pub numbered_rows : Class → ℕ → List RawName → List Row
numbered_rows class n [] = []
numbered_rows class n (x ∷ xs) = (x.spelling, Declared class n) ∷ numbered_rows class (suc n) xs

-- the rows of a declaration's names, whose numbers go on behind those of the names above
abbrev pub rows_declared : RawScript → RawDeclaration → List Row
rows_declared above (RawDatatype name clauses) =
    (name.spelling, Declared DatatypeName (length (names_of DatatypeName above)))
    ∷ numbered_rows ConstructorName (length (names_of ConstructorName above)) (clause_names clauses)
rows_declared above (RawNametype name domain) = (name.spelling, Declared NametypeName (length (names_of NametypeName above))) ∷ []
rows_declared above (RawChannels names domains) = numbered_rows ChannelName (length (names_of ChannelName above)) names
rows_declared above (RawEquation name parameters body) = (name.spelling, Declared EquationName (length (names_of EquationName above))) ∷ []
rows_declared above (RawAssertion place n a p) = []

-- Each declared name, in the order of the text.
abbrev pub declared_rows : RawScript → List Row
declared_rows raw = in_order rows_declared raw

abbrev pub row_spellings : List Row → List (List ℕ)
row_spellings rows = map (λ r. r.0) rows

-- what the first row with a spelling says
abbrev pub meaning_in : List Row → List ℕ → Option Meaning
meaning_in [] s = None
meaning_in (r ∷ rows) s = cond (bytes_eq r.0 s) (Some r.1) (meaning_in rows s)

-- no spelling stands twice
abbrev pub EachOnce : List (List ℕ) → Type 0
EachOnce [] = ⊤
EachOnce (s ∷ ss) = (number_in ss s ≡ None) × EachOnce ss
