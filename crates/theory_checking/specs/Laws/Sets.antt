-- The members of a tree's sets, for the laws.
use Rattle.std.specs.Prelude.{◌≡◌, List, Some}
use Rattle.theory_syntax.specs.Value.{Value, value_cmp}
use Rattle.theory_syntax.specs.Expression.{Expression}
use Rattle.theory_semantics.specs.Meaning.Offers.{RisesBy}
use Rattle.theory_text.specs.Raw.{RawDomain, RawScript}
use Rattle.theory_checking.specs.Sets.{set_expression, datatypes_of, members_with, members_above}

-- the members of a set over those of the declarations above rise
abbrev pub MembersRise : RawScript → RawScript → Type 0
MembersRise raw above =
    (d : RawDomain) (e : Expression) (vs : List Value) →
    set_expression above d ≡ Some e → members_with (datatypes_of raw) (members_above raw above) e ≡ Some vs →
    RisesBy value_cmp vs
