-- Ways through the layers of a path.
use Rattle.std.specs.Prelude.{◌≡◌, ℕ, List, Vec, Some, map, slice_get}
use Rattle.theory_syntax.specs.Value.{Action}
use Rattle.theory_syntax.specs.Process.{Process, Script}
use Rattle.theory_runs.specs.States.{Visits}
use Rattle.csp_term.specs.Term.{process_of}
use Rattle.csp_term.specs.declared.term.Term.{Term}
use Rattle.csp_replay.specs.declared.layers.Layers.{Layers}
use Rattle.csp_replay.specs.Layer.{terms_of}
use Rattle.csp_replay.specs.Layers.{AreLayersFrom}

-- the layers are those of the path from t, and u stands at the place in the last one
pub record EndsAt {A : Type 0} (script : Script) (t : Process) (path : List Action) (layers : Layers A) (end : ℕ) (u : Process) : Type 0 where
  pub layers_of : AreLayersFrom script t path layers
  pub stands : slice_get (terms_of layers.last) end ≡ Some u

-- they are the layers of some path, with a term at the place in the last one
abbrev pub EndsWay : {A : Type 0} → Layers A → ℕ → Type 0
EndsWay layers end = (script : Script) × (t : Process) × (path : List Action) × (u : Process) × EndsAt script t path layers end u

-- whichever path the layers are of, the terms are the states on its way to the one at the place
abbrev pub IsWayTo : {A : Type 0} → Layers A → ℕ → Vec (Term A) A → Type 0
IsWayTo layers end way = (script : Script) (t : Process) (path : List Action) (u : Process) → EndsAt script t path layers end u → Visits script t path (map process_of way.items) u
