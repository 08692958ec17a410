-- Well-kinded scripts.
use Rattle.std.specs.Prelude.{◌≡◌, ℕ, List, length, IfSome, slice_get, Some}
use Rattle.theory_syntax.specs.Value.{Value}
use Rattle.theory_syntax.specs.Process.{Process, Equation, specification_of, Assertion, Script}
use Rattle.theory_syntax.specs.Types.{Types}
use Rattle.theory_semantics.specs.Kinds.Kind.{Kind, Kinds, scope_of, InTurn, BeginsInTurn, Each}
use Rattle.theory_semantics.specs.Kinds.Values.{IsConstructorOf, DatatypesRise, AreMembersOf}
use Rattle.theory_semantics.specs.Kinds.Processes.{IsWellKinded, IsClosedTerm}

-- sets in turn, as those of the fields of a constructor or a channel, have the kinds in turn
abbrev pub SetsHaveTheirKinds : Types → Kinds → List (List Value) → List Kind → Type 0
SetsHaveTheirKinds types kinds sets ks = InTurn (AreMembersOf types kinds) sets ks

-- an equation has as many parameters as kinds, and its body is well-kinded where the parameters have these kinds
pub record IsWellKindedEquation (script : Script) (kinds : Kinds) (equation : Equation) (ks : List Kind) : Type 0 where
  pub parameters : length equation.parameters ≡ length ks
  pub body : IsWellKinded script kinds (scope_of equation.parameters ks) equation.body

-- both sides of an assertion, or the one that it has, are closed terms
pub record IsWellKindedAssertion (script : Script) (kinds : Kinds) (assertion : Assertion) : Type 0 where
  pub specification : IfSome (specification_of assertion.property) (IsClosedTerm script kinds)
  pub implementation : IsClosedTerm script kinds assertion.implementation

-- the sets of the fields of each constructor of a datatype are there
abbrev pub HaveFieldSets : Types → Type 0
HaveFieldSets types = (d c : ℕ) → IsConstructorOf types d c → (sets : List (List Value)) × (slice_get types.constructors c ≡ Some sets)

-- The sets of the nametypes and of the constructors' fields have the kinds, each constructor of a datatype has its fields,
-- and the constructors of a datatype rise.
pub record TypesHaveKinds (types : Types) (kinds : Kinds) : Type 0 where
  pub nametypes : InTurn (AreMembersOf types kinds) types.nametypes kinds.nametypes
  pub constructors : InTurn (SetsHaveTheirKinds types kinds) types.constructors kinds.constructors
  pub fields : HaveFieldSets types
  pub datatypes : DatatypesRise types

-- Those of the first nametypes and constructors have the kinds, where others may follow, and the constructors of a datatype rise.
pub record TypesHaveFirstKinds (types : Types) (kinds : Kinds) : Type 0 where
  pub nametypes : BeginsInTurn (AreMembersOf types kinds) types.nametypes kinds.nametypes
  pub constructors : BeginsInTurn (SetsHaveTheirKinds types kinds) types.constructors kinds.constructors
  pub datatypes : DatatypesRise types

-- The sets of the types and of the channels' fields have the kinds.
pub record SetsHaveKinds (script : Script) (kinds : Kinds) : Type 0 where
  pub types : TypesHaveKinds script.types kinds
  pub channels : InTurn (SetsHaveTheirKinds script.types kinds) script.channels kinds.channels

-- The script is well-kinded with these kinds.
pub record IsWellKindedScript (script : Script) (kinds : Kinds) : Type 0 where
  pub sets : SetsHaveKinds script kinds
  pub equations : InTurn (IsWellKindedEquation script kinds) script.equations kinds.parameters
  pub assertions : Each (IsWellKindedAssertion script kinds) script.assertions

-- A script is checked where some kinds fit it.
abbrev pub IsCheckedScript : Script → Type 0
IsCheckedScript script = (kinds : Kinds) × IsWellKindedScript script kinds

-- A term of a checked script: closed and well-kinded with some kinds that fit the script.
abbrev pub IsTermOf : Script → Process → Type 0
IsTermOf script t = (kinds : Kinds) × IsWellKindedScript script kinds × IsClosedTerm script kinds t
