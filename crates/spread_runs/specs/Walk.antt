-- A run in the making that spreads another one.
use Rattle.std.specs.Prelude.{◌≡◌, ℕ, List, [], ◌∷◌, ◌++◌, map, slice_get, Some}
use Rattle.theory_syntax.specs.Value.{Action}
use Rattle.theory_syntax.specs.Process.{Process, Script}
use Rattle.theory_semantics.specs.Kinds.Scripts.{IsTermOf}
use Rattle.theory_spread_runs.specs.Spread.{IsBegun}
use Rattle.csp_value.specs.Action.{action_of}
use Rattle.csp_term.specs.Term.{process_of}
use Rattle.spread_runs.specs.declared.walk.Walk.{Walk}

-- The walk leads from t by steps of the script, and spreads this much of a run.
abbrev pub Tells : {A : Type 0} → Script → Process → List Action → List Process → Walk A → Type 0
Tells script t path states w = IsBegun script t path states (map action_of w.path.items) (map process_of w.behind.items) (process_of w.here)

-- it stands at the term, and nothing is behind it
pub record IsAt {A : Type 0} (t : Process) (w : Walk A) : Type 0 where
  pub path : map action_of w.path.items ≡ []
  pub behind : map process_of w.behind.items ≡ []
  pub here : process_of w.here ≡ t

-- it has gone on by one step
pub record IsOneOn {A : Type 0} (x : Action) (u : Process) (old new : Walk A) : Type 0 where
  pub path : map action_of new.path.items ≡ map action_of old.path.items ++ x ∷ []
  pub behind : map process_of new.behind.items ≡ map process_of old.behind.items ++ process_of old.here ∷ []
  pub here : process_of new.here ≡ u

-- It has gone on by taus to a term of the script: whatever it spread, it spreads.
pub record GoesOn {A : Type 0} (script : Script) (old new : Walk A) : Type 0 where
  pub tells : (t : Process) (path : List Action) (states : List Process) → Tells script t path states old → Tells script t path states new
  pub closed : IsTermOf script (process_of new.here)

-- It has gone on to the target, by taus; or by a step by x, and taus behind it.
pub record GoesTo {A : Type 0} (script : Script) (target : Process) (old new : Walk A) : Type 0 where
  pub on : GoesOn script old new
  pub there : process_of new.here ≡ target

pub record GoesToBy {A : Type 0} (script : Script) (x : Action) (target : Process) (old new : Walk A) : Type 0 where
  pub tells : (t : Process) (path : List Action) (states : List Process) → Tells script t path states old →
      Tells script t (path ++ x ∷ []) (states ++ process_of old.here ∷ []) new
  pub closed : IsTermOf script (process_of new.here)
  pub there : process_of new.here ≡ target

-- It stands at the state at the place, as one of the run that it spreads, of which so much is before that.
pub record IsAlong {A : Type 0} (script : Script) (t : Process) (path : List Action) (before states : List Process) (place : ℕ) (w : Walk A) : Type 0 where
  pub tells : Tells script t path before w
  pub closed : IsTermOf script (process_of w.here)
  pub stands : slice_get states place ≡ Some (process_of w.here)
