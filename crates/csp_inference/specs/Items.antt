-- The items of a tree, and whether kinds fit them.
use Rattle.std.specs.Prelude.{◌≡◌, suc, ⊤, [], ◌∷◌, ◌++◌, length, map, flat_map, Result, Ok, Err}
use Rattle.theory_syntax.specs.Process.{Script}
use Rattle.theory_semantics.specs.Kinds.Kind.{Kinds}
use Rattle.theory_text.specs.Raw.{RawDeclaration, RawScript}
use Rattle.theory_checking.specs.Names.{EquationName, names_of}
use Rattle.theory_checking.specs.Faults as faults
use Rattle.theory_checking.specs.Faults.{IsFirstRefused}
use Rattle.theory_checking.specs.Fitting as pure
use Rattle.theory_checking.specs.Fitting.{FitKinds, IsMisfit, item_place, items, one_assertion}
use Rattle.theory_checking.specs.Inference.Equations.{Numbering}
use Rattle.theory_checking.specs.Inference.Items.{behind_item, of_item}
use Rattle.csp_inference.specs.declared.equations.Equations.{Equations}
use Rattle.csp_inference.specs.declared.misfit.Misfit.{Misfit}
use Rattle.csp_inference.specs.declared.misfit.Misfit.TheVariants as misfit
use Rattle.csp_inference.specs.Numbering.{numbering_of}
use Rattle.csp_lex.specs.declared.places.Place.{Place}
use Rattle.csp_lex.specs.Places.{place_of}
use Rattle.csp_inference.specs.declared.fit_fault.FitFault.{FitFault}
use Rattle.csp_inference.specs.declared.fit_fault.FitFault.TheVariants as fault
use Rattle.csp_inference.specs.declared.item_list.Item.{Item}
use Rattle.csp_inference.specs.declared.item_list.Item.TheVariants as item
use Rattle.csp_inference.specs.declared.item_list.ItemList.{ItemList}
use Rattle.csp_inference.specs.declared.known_kinds.KnownKinds.{KnownKinds}
use Rattle.csp_inference.specs.Solving.{AsksFor, SolvedFor}

abbrev pub item_of : Item → pure.Item
item_of (item.Equation p n) = pure.EquationItem (place_of p) n
item_of (item.Assertion p n) = pure.AssertionItem (place_of p) n

-- They are the items of these declarations, of which so many are equations and so many assertions.
pub record AreItemsOf {A : Type 0} (raw : RawScript) (list : ItemList A) : Type 0 where
  pub items : map item_of list.items.items ≡ items raw
  pub equations : list.equations ≡ length (names_of EquationName raw)
  pub assertions : list.assertions ≡ length (flat_map one_assertion raw)

pub record AddsEquation {A : Type 0} (place : Place) (old new : ItemList A) : Type 0 where
  pub items : map item_of new.items.items ≡ map item_of old.items.items ++ pure.EquationItem (place_of place) old.equations ∷ []
  pub equations : new.equations ≡ suc old.equations
  pub assertions : new.assertions ≡ old.assertions

pub record AddsAssertion {A : Type 0} (place : Place) (old new : ItemList A) : Type 0 where
  pub items : map item_of new.items.items ≡ map item_of old.items.items ++ pure.AssertionItem (place_of place) old.assertions ∷ []
  pub equations : new.equations ≡ old.equations
  pub assertions : new.assertions ≡ suc old.assertions

-- The declaration's item is added, if it has one.
abbrev pub AddsItems : {A : Type 0} → RawDeclaration → ItemList A → ItemList A → Type 0
AddsItems d old new = (above : RawScript) → AreItemsOf above old → AreItemsOf (above ++ d ∷ []) new

-- Some kinds fit all items; or this is the place of the first one that no kinds fit. Refused memory says nothing.
abbrev pub FitsItems : RawScript → Script → Result (Unit {0}) FitFault → Type 0
FitsItems raw script (Ok _) = (kinds : Kinds) × FitKinds raw script kinds (items raw)
FitsItems raw script (Err (fault.WrongKind place)) = (x : pure.Item) × IsFirstRefused (IsMisfit raw script) (items raw) x faults.WrongKind × (item_place x ≡ place_of place)
FitsItems raw script (Err fault.Memory) = ⊤

-- The item's equations are asked for, or have no solution.
abbrev pub AsksForItem : {A : Type 0} → Script → Numbering → pure.Item → Equations A → Equations A → Result (Unit {0}) Misfit → Type 0
AsksForItem script o x old new result = AsksFor old (of_item script o old.next x) (behind_item script old.next x) new result

-- They are solved, or have no solution.
abbrev pub SolvedForItem : {A : Type 0} → Script → pure.Item → KnownKinds A → KnownKinds A → Result (Unit {0}) Misfit → Type 0
SolvedForItem script x old new result = SolvedFor old (of_item script (numbering_of old.numbering) old.equations.next x) (behind_item script old.equations.next x) new result

-- The same, and where they have no solution the item's place is told. Refused memory says nothing.
abbrev pub FitsItemAt : {A : Type 0} → Script → pure.Item → KnownKinds A → KnownKinds A → Result (Unit {0}) FitFault → Type 0
FitsItemAt script x old new (Ok _) = SolvedForItem script x old new (Ok tt)
FitsItemAt script x old new (Err (fault.WrongKind place)) = SolvedForItem script x old new (Err misfit.NoKinds) × (item_place x ≡ place_of place)
FitsItemAt script x old new (Err fault.Memory) = ⊤
