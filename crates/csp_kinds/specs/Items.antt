-- The equations and assertions of a tree.
use Rattle.std.specs.Prelude.{◌≡◌, List, [], ◌++◌, map, flat_map, Option, Some, Result, Ok, Err}
use Rattle.theory_syntax.specs.Process as pure
use Rattle.theory_text.specs.Raw.{RawDeclaration, RawEquation, RawAssertion, RawScript}
use Rattle.theory_checking.specs.Names.{binding, bound_in_declaration, environment_of, spellings}
use Rattle.theory_checking.specs.Scripts.{assertion_declared, equation_declared}
use Rattle.theory_checking.specs.Sets.{in_order}
use Rattle.theory_checking.specs.Sites.{Site, in_declaration, in_parameters, in_process, in_property}
use Rattle.theory_checking.specs.Walks.{AllFine}
use Rattle.csp_term.specs.Script.{assertion_of, equation_of}
use Rattle.csp_names.specs.declared.bound_names.BoundNames.{BoundNames}
use Rattle.csp_names.specs.declared.refusals.Refused.{Refused}
use Rattle.csp_names.specs.declared.scope.Scope.{Scope}
use Rattle.csp_names.specs.Scopes.{Binds, IsInOrder}
use Rattle.csp_names.specs.Walks.{Serves, Stops}
use Rattle.csp_kinds.specs.declared.items.Items.{Items}

-- the equations and the assertions, as the definitions have them
abbrev pub equations_made : {A : Type 0} → Items A → List (Option pure.Equation)
equations_made items = map Some (map equation_of items.equations.items)

abbrev pub assertions_made : {A : Type 0} → Items A → List (Option pure.Assertion)
assertions_made items = map Some (map assertion_of items.assertions.items)

-- The sites of these declarations of the tree are all fine, and these are their equations and assertions.
pub record AreItemsOf {A : Type 0} (raw above : RawScript) (items : Items A) : Type 0 where
  pub fine : AllFine (in_order (in_declaration raw) above)
  pub equations : equations_made items ≡ flat_map (equation_declared raw) above
  pub assertions : assertions_made items ≡ flat_map (assertion_declared raw) above

-- the sites of a declaration's processes
abbrev pub in_processes : RawScript → RawDeclaration → List Site
in_processes raw (RawEquation name parameters body) = in_parameters (environment_of raw) parameters ++ in_process (binding (environment_of raw) parameters) body
in_processes raw (RawAssertion place n a p) = in_property (environment_of raw) a ++ in_process (environment_of raw) p
in_processes raw _ = []

-- The sites of the declaration's processes are fine, and it is added if it is an equation or an assertion.
pub record Adds {A : Type 0} (raw : RawScript) (d : RawDeclaration) (old new : Items A) : Type 0 where
  pub fine : AllFine (in_processes raw d)
  pub equations : equations_made new ≡ equations_made old ++ equation_declared raw d
  pub assertions : assertions_made new ≡ assertions_made old ++ assertion_declared raw d

-- The declaration is added, and the names that are bound in it were met. Or the first of its sites is answered that is
-- refused.
abbrev pub AddsItem : {A : Type 0} → Scope A → BoundNames A → BoundNames A → RawDeclaration → Items A → Items A → Result (Unit {0}) Refused → Type 0
AddsItem scope bound bound' d old new (Ok _) =
    ((raw : RawScript) → Serves scope bound (spellings (bound_in_declaration d)) (environment_of raw) → Adds raw d old new) × (IsInOrder bound → Binds bound bound' (spellings (bound_in_declaration d)) [])
AddsItem scope bound bound' d old new (Err refused) = (raw : RawScript) → Serves scope bound (spellings (bound_in_declaration d)) (environment_of raw) → Stops (in_processes raw d) refused
