-- The layers of a path.
use Rattle.std.specs.Prelude.{List, map}
use Rattle.theory_syntax.specs.Value.{Action}
use Rattle.theory_syntax.specs.Process.{Process, Script}
use Rattle.theory_runs.specs.Layers.{AreLayers}
use Rattle.csp_replay.specs.declared.layers.Layers.{Layers}
use Rattle.csp_replay.specs.Layer.{layer_of}

abbrev pub AreLayersFrom : {A : Type 0} → Script → Process → List Action → Layers A → Type 0
AreLayersFrom script t path ls = AreLayers script t path (map layer_of ls.behind.items) (layer_of ls.last)
