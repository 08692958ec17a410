-- How large searches are.
use Rattle.std.specs.Prelude.{◌≡◌, ◌≢◌, Bool, Option, Some, None, IfSome, length}
use Rattle.theory_syntax.specs.Process.{Script, Assertion}
use Rattle.theory_search.specs.Answer.{as_written}
use Rattle.theory_search.specs.Outcome.{Bounds, Why, Outcome, Unknown}
use Rattle.theory_search.specs.Search.{Search, Open, IsLawful}
use Rattle.theory_search.specs.Sound.{ScriptSearch, IsFor}
use Rattle.explore.specs.Answering.{IsNotBegun, IsToldOrNoMemory}
use Rattle.explain_program.specs.declared.search_size.SearchSize.{SearchSize}

-- the search keeps so many pairs, and the normal form of its specification, if there is one, has so many nodes
abbrev pub HasSize : Search → SearchSize → Type 0
HasSize search size = (size.pairs ≡ length search.rows) × IfSome search.normal (λ form. size.nodes ≡ length form.states)

-- the search tells the outcome, but for a `not`
abbrev pub IsToldAsWritten : Bool → Search → Outcome → Type 0
IsToldAsWritten negated search o = (told : Outcome) × IsToldOrNoMemory search told × (o ≡ as_written negated told)

-- A lawful search for the assertion has ended with this outcome, and has this size.
pub record IsSizeOf (script : Script) (a : Assertion) (bounds : Bounds) (o : Outcome) (size : SearchSize) : Type 0 where
  pub found : ScriptSearch
  pub asked : IsFor script a bounds found
  pub lawful : IsLawful found.script found.search
  pub ended : found.search.verdict ≢ Open
  pub told : IsToldAsWritten a.negated found.search o
  pub has_size : HasSize found.search size

-- no search was begun, or memory was refused in it
abbrev pub IsWithoutSearch : Script → Assertion → Bounds → Outcome → Type 0
IsWithoutSearch script a bounds o = (why : Why) × (o ≡ Unknown why) × IsNotBegun script a bounds why

-- the size of the search that an outcome comes from, if there was one
abbrev pub IsSizeFor : Script → Assertion → Bounds → Outcome → Option SearchSize → Type 0
IsSizeFor script a bounds o (Some size) = IsSizeOf script a bounds o size
IsSizeFor script a bounds o None = IsWithoutSearch script a bounds o
