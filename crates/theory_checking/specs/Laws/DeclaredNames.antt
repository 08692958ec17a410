-- Declared names, their rows, and the owners of constructors.
use Rattle.std.specs.Prelude.{◌≡◌, ℕ, ◌<◌, ◌≤◌, true, false, cond, List, [], ◌∷◌, ◌++◌, length, take, slice_get, Some, None}
use Rattle.theory_text.specs.Raw.{RawName, RawDeclaration, RawScript}
use Rattle.theory_checking.specs.Names.{spellings, has_spelling, bound_in_declaration, bound_spellings, Meaning, declared_meaning}
use Rattle.theory_checking.specs.Faults.{NoneRefused}
use Rattle.theory_checking.specs.Rules.{all_declared, IsRedeclared}
use Rattle.theory_checking.specs.Walks.{AreNumbered}
use Rattle.theory_checking.specs.DeclaredRows.{Row, declared_rows}
use Rattle.theory_checking.specs.ConstructorRows.{constructor_counts}
use Rattle.theory_checking.specs.Inference.Items.{owners_from}

-- none of the names is declared twice
abbrev pub AreDeclaredOnce : List RawName → Type 0
AreDeclaredOnce names = NoneRefused IsRedeclared names

-- the tree declares no name twice
abbrev pub DeclaresOnce : RawScript → Type 0
DeclaresOnce raw = AreDeclaredOnce (all_declared raw)

-- none of the names before it has its spelling
abbrev pub IsNewBehind : List RawName → RawName → Type 0
IsNewBehind before n = has_spelling (spellings before) n.spelling ≡ false

-- the name is declared before it, and no name before it is declared twice
abbrev pub IsFirstRepeated : RawScript → RawName → Type 0
IsFirstRepeated raw n =
    (before : List RawName) × (after : List RawName) × (all_declared raw ≡ before ++ n ∷ after)
    × AreDeclaredOnce before × (has_spelling (spellings before) n.spelling ≡ true)

-- ---- rows

-- the rows of the names above, which are the first of the tree
abbrev pub rows_above : RawScript → RawScript → List Row
rows_above raw above = take (length (all_declared above)) (declared_rows raw)

-- the spelling of a row above means what the row says
abbrev pub RowsAboveAreMeant : RawScript → RawScript → Type 0
RowsAboveAreMeant raw above = (i : ℕ) (s : List ℕ) (m : Meaning) →
    slice_get (declared_rows raw) i ≡ Some (s, m) →
    i < length (all_declared above) →
    declared_meaning above s ≡ Some m

-- the spelling of a row further down means nothing above
abbrev pub RowsBelowMeanNothing : RawScript → RawScript → Type 0
RowsBelowMeanNothing raw above = (i : ℕ) (s : List ℕ) (m : Meaning) →
    slice_get (declared_rows raw) i ≡ Some (s, m) →
    length (all_declared above) ≤ i →
    declared_meaning above s ≡ None

-- what a spelling means above stands in a row above
abbrev pub MeaningsHaveRowsAbove : RawScript → RawScript → Type 0
MeaningsHaveRowsAbove raw above = (s : List ℕ) (m : Meaning) →
    declared_meaning above s ≡ Some m →
    (i : ℕ) × (slice_get (declared_rows raw) i ≡ Some (s, m)) × (i < length (all_declared above))

-- the datatype of each constructor of a tree, numbered in a row
abbrev pub owners_in_a_row : RawScript → List ℕ
owners_in_a_row raw = owners_from 0 (constructor_counts raw)

-- ---- bound names

-- one more spelling behind the list, if it is not in it
abbrev pub with_one_spelling : List (List ℕ) → List ℕ → List (List ℕ)
with_one_spelling ss t = cond (has_spelling ss t) ss (ss ++ t ∷ [])

-- the names that the declaration binds have numbers in the tree
abbrev pub AreItsNamesNumbered : RawScript → RawDeclaration → Type 0
AreItsNamesNumbered raw d = AreNumbered (bound_spellings raw) (bound_in_declaration d)
