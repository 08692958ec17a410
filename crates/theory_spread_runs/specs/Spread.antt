-- Runs with names unfolded at once, told as runs with a tau for each name.
use Rattle.std.specs.Prelude.{List, [], ◌∷◌, ◌++◌}
use Rattle.theory_syntax.specs.Value.{Action, Tau}
use Rattle.theory_syntax.specs.Process.{Process, Script}
use Rattle.theory_semantics.specs.Meaning.Transitions.{Step}

-- The longer path leads from t through more states, by steps of the script. It does the actions of the path, each from the
-- state that stands before it on the way of that, with taus put in between, and ends in the same state.
pub data Spreads (script : Script) : Process → List Action → List Process → List Action → List Process → Type 0 where
  ends : {v : Process} → Spreads script v [] (v ∷ []) [] (v ∷ [])
  tau : {t u : Process} {path longer : List Action} {states more : List Process} → Step script t Tau u → Spreads script u path states longer more →
      Spreads script t path states (Tau ∷ longer) (t ∷ more)
  acts : {v w : Process} {x : Action} {path longer : List Action} {states more : List Process} → Step script v x w → Spreads script w path states longer more →
      Spreads script v (x ∷ path) (v ∷ states) (x ∷ longer) (v ∷ more)

-- So much is told of both runs, up to where they stand, which is left out: with whatever is told from there on, it is one
-- that spreads the other.
abbrev pub IsBegun : Script → Process → List Action → List Process → List Action → List Process → Process → Type 0
IsBegun script t path states longer more here =
    (p l : List Action) (ps ls : List Process) → Spreads script here p ps l ls → Spreads script t (path ++ p) (states ++ ps) (longer ++ l) (more ++ ls)
