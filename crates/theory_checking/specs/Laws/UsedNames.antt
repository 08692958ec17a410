-- What a name means where it is used, and how many fields or parameters it has.
use Rattle.std.specs.Prelude.{◌≡◌, ◌≢◌, ℕ, ◌<◌, ◌≤◌, true, false, List, length, Option, Some, None}
use Rattle.theory_syntax.specs.Value.{Value}
use Rattle.theory_text.specs.Raw.{RawName}
use Rattle.theory_checking.specs.Names.{Meaning, declared_meaning, Environment, meaning}
use Rattle.theory_checking.specs.Resolving.{as_channel}
use Rattle.theory_checking.specs.Sites.{Use}
use Rattle.theory_checking.specs.Rules.{suits, field_count, HasFieldSets}
use Rattle.theory_checking.specs.Walks.{IsThere}

-- ---- the class of a name

-- the name is neither bound nor declared
abbrev pub MeansNothing : Environment → RawName → Type 0
MeansNothing env n = meaning env n ≡ None

-- it is one or the other
abbrev pub MeansSomething : Environment → RawName → Type 0
MeansSomething env n = IsThere (meaning env n)

-- the name means something that can be used so
abbrev pub Suits : Environment → Use → RawName → Type 0
Suits env u n = (m : Meaning) × (meaning env n ≡ Some m) × (suits u m ≡ true)

-- it means something that cannot
abbrev pub IsUnsuited : Environment → Use → RawName → Type 0
IsUnsuited env u n = (m : Meaning) × (meaning env n ≡ Some m) × (suits u m ≡ false)

-- the spelling is not declared
abbrev pub IsUndeclared : Environment → RawName → Type 0
IsUndeclared env n = declared_meaning env.declarations n.spelling ≡ None

-- it is
abbrev pub IsDeclared : Environment → RawName → Type 0
IsDeclared env n = IsThere (declared_meaning env.declarations n.spelling)

-- ---- a count that is there, compared with a number

-- it is another one
abbrev pub IsOtherThan : ℕ → Option ℕ → Type 0
IsOtherThan k count = (p : ℕ) × (count ≡ Some p) × (p ≢ k)

-- it is no less
abbrev pub IsAtLeast : ℕ → Option ℕ → Type 0
IsAtLeast k count = (p : ℕ) × (count ≡ Some p) × (k ≤ p)

-- it is less
abbrev pub IsLessThan : ℕ → Option ℕ → Type 0
IsLessThan k count = (p : ℕ) × (count ≡ Some p) × (p < k)

-- it is zero, if there is one
abbrev pub IsNoneOrZero : Option ℕ → Type 0
IsNoneOrZero count = (p : ℕ) → count ≡ Some p → p ≡ 0

-- ---- two bare channels

-- both have as many fields
abbrev pub HaveEqualCounts : Environment → RawName → RawName → Type 0
HaveEqualCounts env n other = (p : ℕ) × (field_count env n ≡ Some p) × (field_count env other ≡ Some p)

-- the first has fields, and the other one not as many
abbrev pub HaveUnlikeCounts : Environment → RawName → RawName → Type 0
HaveUnlikeCounts env n other = (p : ℕ) × (field_count env n ≡ Some p) × (p ≢ 0) × (field_count env other ≢ Some p)

-- where both have field sets, they are equal
abbrev pub HaveEqualSets : Environment → RawName → RawName → Type 0
HaveEqualSets env left right = (c d : ℕ) (s t : List (List Value)) →
    as_channel (meaning env left) ≡ Some c →
    as_channel (meaning env right) ≡ Some d →
    HasFieldSets env.declarations c s →
    HasFieldSets env.declarations d t →
    s ≡ t

-- they have as many fields, and no unlike sets
abbrev pub AreAlike : Environment → RawName → RawName → Type 0
AreAlike env left right = HaveEqualCounts env left right × HaveEqualSets env left right

-- both have field sets, as many and unlike
abbrev pub HaveUnlikeSets : Environment → RawName → RawName → Type 0
HaveUnlikeSets env left right =
    (c : ℕ) × (d : ℕ) × (s : List (List Value)) × (t : List (List Value))
    × (as_channel (meaning env left) ≡ Some c) × (as_channel (meaning env right) ≡ Some d)
    × HasFieldSets env.declarations c s × HasFieldSets env.declarations d t
    × (length s ≡ length t) × (s ≢ t)
