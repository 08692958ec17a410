-- Lassos through the terms of a layer.
use Rattle.std.specs.Prelude.{◌≡◌, ◌<◌, ℕ, List, map, length, slice_get, Some, Contains}
use Rattle.theory_syntax.specs.Value.{Tau}
use Rattle.theory_syntax.specs.Process.{Process, Script}
use Rattle.theory_semantics.specs.Meaning.Transitions.{Step}
use Rattle.theory_search.specs.TauRanks.{taus_at}
use Rattle.theory_runs.specs.Lassos.{IsLasso, LeadByTaus}
use Rattle.csp_term.specs.Term.{process_of}
use Rattle.csp_replay.specs.declared.lasso.Lasso.{Lasso}

-- the lasso is one from t
abbrev pub IsLassoFrom : {A : Type 0} → Script → Process → Lasso A → Type 0
IsLassoFrom script t lasso = (again : Process) × IsLasso script t (map process_of lasso.states.items) lasso.back again

-- whichever script the taus are of, it is one from the term at the place
abbrev pub FollowsTaus : {A : Type 0} → List Process → List (List ℕ) → ℕ → Lasso A → Type 0
FollowsTaus terms taus start lasso = (script : Script) (t : Process) → LeadByTaus script terms taus → slice_get terms start ≡ Some t → IsLassoFrom script t lasso

-- the places are those that taus lead to from the term at the place, and all of those
pub record AreTausFrom (script : Script) (terms : List Process) (i : ℕ) (places : List ℕ) : Type 0 where
  pub leads : (t : Process) → slice_get terms i ≡ Some t → (j : ℕ) → Contains places j → (u : Process) × (slice_get terms j ≡ Some u) × Step script t Tau u
  pub all : (t u : Process) → slice_get terms i ≡ Some t → Step script t Tau u → (j : ℕ) × Contains places j × (slice_get terms j ≡ Some u)

-- so it is of each term
abbrev pub HasTausOf : Script → List Process → List (List ℕ) → Type 0
HasTausOf script terms taus = (length taus ≡ length terms) × ((i : ℕ) → i < length terms → AreTausFrom script terms i (taus_at taus i))
