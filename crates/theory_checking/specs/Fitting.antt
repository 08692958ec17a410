-- What the third pass refuses: equations and assertions that no kinds fit.
use Rattle.std.specs.Prelude.{◌≡◌, ℕ, List, [], ◌∷◌, ◌++◌, length, map, flat_map, slice_get, Some}
use Rattle.theory_syntax.specs.Process.{Equation, Assertion, Script}
use Rattle.theory_semantics.specs.Kinds.Kind.{Kind, Kinds, Each}
use Rattle.theory_semantics.specs.Kinds.Scripts.{IsWellKindedEquation, IsWellKindedAssertion}
use Rattle.theory_text.specs.Place.{Place}
use Rattle.theory_text.specs.Raw.{RawDeclaration, RawEquation, RawAssertion, RawScript}
use Rattle.theory_checking.specs.Names.{EquationName, names_of}
use Rattle.theory_checking.specs.Sets.{in_order, types_of, FitSets}
use Rattle.theory_checking.specs.Faults.{WrongKind, KindFault}
use Rattle.theory_checking.specs.Rules.{parameters_declared}

-- An equation or an assertion, by its number, with the place of its first token.
pub data Item : Type 0 where
  EquationItem : (place : Place) (equation : ℕ) → Item
  AssertionItem : (place : Place) (assertion : ℕ) → Item

abbrev pub item_place : Item → Place
item_place (EquationItem p n) = p
item_place (AssertionItem p n) = p

abbrev pub one_assertion : RawDeclaration → List RawDeclaration
one_assertion (RawAssertion place n a p) = RawAssertion place n a p ∷ []
one_assertion _ = []

abbrev pub item_declared : RawScript → RawDeclaration → List Item
item_declared above (RawEquation name parameters body) = EquationItem name.place (length (names_of EquationName above)) ∷ []
item_declared above (RawAssertion place n a p) = AssertionItem place (length (flat_map one_assertion above)) ∷ []
item_declared above _ = []

abbrev pub items : RawScript → List Item
items raw = in_order item_declared raw

abbrev pub FitsItem : Script → Kinds → Item → Type 0
FitsItem script kinds (EquationItem p n) =
    (q : Equation) × (ks : List Kind) × (slice_get script.equations n ≡ Some q) × (slice_get kinds.parameters n ≡ Some ks)
    × IsWellKindedEquation script kinds q ks
FitsItem script kinds (AssertionItem p n) = (a : Assertion) × (slice_get script.assertions n ≡ Some a) × IsWellKindedAssertion script kinds a

-- The kinds fit these equations and assertions, together with all datatypes, nametypes and channels. Each parameter of each equation has one.
pub record FitKinds (raw : RawScript) (script : Script) (kinds : Kinds) (some : List Item) : Type 0 where
  pub sets : FitSets (types_of raw) raw kinds
  pub parameters : map length kinds.parameters ≡ flat_map parameters_declared raw
  pub each : Each (FitsItem script kinds) some

-- K03 at the first token of an equation or assertion such that no kinds fit it and those before it
pub data IsMisfit (raw : RawScript) (script : Script) (before : List Item) (x : Item) : KindFault → Type 0 where
  misfit : ((kinds : Kinds) → ¬ (FitKinds raw script kinds (before ++ x ∷ []))) → IsMisfit raw script before x WrongKind
