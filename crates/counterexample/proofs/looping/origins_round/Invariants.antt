-- The origins of the first taus.
use Rattle.std.proofs.Common.{◌≡◌, ◌+◌, ◌++◌, ◌∷◌, [], map, replicate, take, slice_get, Some}
use Rattle.theory_syntax.specs.Process.{Process}
use Rattle.theory_syntax.specs.Value.{Tau}
use Rattle.theory_explanation.specs.Counterexamples.{AreOriginsAlong}
use Rattle.csp_term.specs.Script.{script_of}
use Rattle.csp_term.specs.Term.{process_of}
use Rattle.counterexample.specs.Counterexample.{origins_listed}
use Rattle.counterexample.proofs.looping.origins_round.Given as goal

abbrev pub invariant-loop-place : goal.invariant-loop-place
invariant-loop-place g l =
    (again : Process) → slice_get (map process_of l.states) l.back ≡ Some again →
    AreOriginsAlong (script_of l.script) (replicate l.place Tau) (take (l.place + 1) (map process_of l.states ++ again ∷ [])) (origins_listed l.all.items)
