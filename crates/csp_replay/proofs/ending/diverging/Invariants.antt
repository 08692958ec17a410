-- None of the first terms diverges.
use Rattle.theory_semantics.specs.Meaning.Divergence.{Diverges}
use Rattle.theory_runs.proofs.Scanning.{NoneBefore}
use Rattle.csp_term.specs.Script.{script_of}
use Rattle.csp_replay.specs.Layer.{terms_of}
use Rattle.csp_replay.proofs.ending.diverging.Given as goal

abbrev pub invariant-loop-place : goal.invariant-loop-place
invariant-loop-place g l = NoneBefore (Diverges (script_of l.script)) (terms_of l.layer) l.place
