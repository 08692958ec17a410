-- Where a term of a layer shows some evidence.
use Rattle.std.specs.Prelude.{◌≡◌, ℕ, List, Option, Some, None, slice_get, Contains, ⊤}
use Rattle.theory_syntax.specs.Process.{Process, Script}
use Rattle.theory_semantics.specs.Meaning.Violations.{Evidence, ByDivergence}
use Rattle.theory_search.specs.Counting.{AreMoreThan}
use Rattle.theory_search.specs.Subsets.{IsByTaus}
use Rattle.theory_runs.specs.States.{Shows}
use Rattle.csp_replay.specs.Lassos.{IsLassoFrom}
use Rattle.csp_replay.specs.declared.ending.Ending.{Ending}
use Rattle.csp_replay.specs.declared.ending.Ending.TheVariants as variant
use Rattle.csp_replay.specs.declared.lasso.Lasso.{Lasso}

-- of a divergence there is a lasso from its end, and of nothing else
abbrev pub IsLassoFor : {A : Type 0} → Script → Evidence → Process → Option (Lasso A) → Type 0
IsLassoFor script ByDivergence t (Some lasso) = IsLassoFrom script t lasso
IsLassoFor script ByDivergence t None = ⊥
IsLassoFor script e t (Some lasso) = ⊥
IsLassoFor script e t None = ⊤

-- the term at the place shows it, by a lasso where it diverges; or none does; or taus lead to more than n terms
abbrev pub TellsEnding : {A : Type 0} → Script → List Process → Evidence → ℕ → Ending A → Type 0
TellsEnding script terms e n (variant.At place lasso) = (t : Process) × (slice_get terms place ≡ Some t) × Shows script t e × IsLassoFor script e t lasso
TellsEnding script terms e n variant.Nowhere = (t : Process) → Contains terms t → ¬ Shows script t e
TellsEnding script terms e n variant.TooMany = (e ≡ ByDivergence) × AreMoreThan ◌≡◌ n (IsByTaus script (Contains terms))
