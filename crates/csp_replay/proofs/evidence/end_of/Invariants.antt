-- None of the terms so far shows it.
use Rattle.theory_runs.specs.States.{Shows}
use Rattle.theory_runs.proofs.Scanning.{NoneBefore}
use Rattle.csp_term.specs.Script.{script_of}
use Rattle.verdict.specs.Outcome.{evidence_of}
use Rattle.csp_replay.specs.Layer.{terms_of}
use Rattle.csp_replay.proofs.evidence.end_of.Given as goal

abbrev pub invariant-loop-place : goal.invariant-loop-place
invariant-loop-place g l = NoneBefore (λ u. Shows (script_of l.script) u (evidence_of l.evidence)) (terms_of l.layer) l.place
