-- The layer that one of the code stands for.
use Rattle.std.specs.Prelude.{List, map}
use Rattle.theory_syntax.specs.Process.{Process}
use Rattle.theory_runs.specs.Layers as runs
use Rattle.csp_term.specs.Term.{process_of}
use Rattle.csp_replay.specs.declared.layer.Layer.{Layer}

abbrev pub terms_of : {A : Type 0} → Layer A → List Process
terms_of l = map process_of l.terms.keys

abbrev pub layer_of : {A : Type 0} → Layer A → runs.Layer
layer_of l = (terms_of l, l.parents.items)
