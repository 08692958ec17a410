-- What is told by tau of a violation at once.
use Rattle.std.specs.Prelude.{◌≡◌, ℕ, List, Option, Some, None, map, slice_get, ⊤}
use Rattle.theory_syntax.specs.Process.{Assertion, Process, Script}
use Rattle.theory_semantics.specs.Kinds.Scripts.{IsTermOf}
use Rattle.theory_semantics.specs.Meaning.Violations.{Evidence, Violation}
use Rattle.theory_spread_runs.specs.Spread.{Spreads}
use Rattle.theory_explanation.specs.Counterexamples.{IsSpreadCounterexample, by_path}
use Rattle.csp_term.specs.Term.{process_of}
use Rattle.csp_replay.specs.Endings.{IsLassoFor}
use Rattle.csp_replay.specs.declared.lasso.Lasso.{Lasso}
use Rattle.verdict.specs.Outcome.{violation_of}
use Rattle.counterexample.specs.Counterexample.{counterexample_of}
use Rattle.counterexample.specs.declared.spreading.Spread.{Spread}
use Rattle.counterexample.specs.declared.spreading.SpreadReplay.{SpreadReplay}
use Rattle.counterexample.specs.declared.spreading.SpreadLasso.{SpreadLasso}
use Rattle.counterexample.specs.declared.spreading.SpreadLasso.TheVariants as spread

-- a violation like this one, with another path, and what is told of it by a run by that path
pub record IsSpread {A : Type 0} (script : Script) (t : Process) (a : Assertion) (v : Violation) (n : ℕ) (s : Spread A) : Type 0 where
  pub like : violation_of s.shown ≡ by_path (violation_of s.shown).path v
  pub told : IsSpreadCounterexample script t a v n (violation_of s.shown).path (counterexample_of s.counterexample)

-- the same of the run alone, by steps of the script
pub record SpreadsReplay {A : Type 0} (script : Script) (t : Process) (v : Violation) (states : List Process) (r : SpreadReplay A) : Type 0 where
  pub like : violation_of r.shown ≡ by_path (violation_of r.shown).path v
  pub spread : Spreads script t v.path states (violation_of r.shown).path (map process_of r.states.items)

-- whatever the lasso is by another script, the one that is found is by this one
abbrev pub SpreadsLasso : {A : Type 0} → Script → Option (Lasso A) → SpreadLasso A → Type 0
SpreadsLasso script lasso (spread.Found l) = (other : Script) (e : Evidence) (t : Process) → IsLassoFor other e t lasso → IsLassoFor script e t l
SpreadsLasso script lasso spread.Nowhere = ⊤

-- the lasso, if there is one, begins at a term of the script
abbrev pub BeginsIn : {A : Type 0} → Script → Option (Lasso A) → Type 0
BeginsIn script (Some lasso) = (t : Process) → slice_get (map process_of lasso.states.items) 0 ≡ Some t → IsTermOf script t
BeginsIn script None = ⊤
