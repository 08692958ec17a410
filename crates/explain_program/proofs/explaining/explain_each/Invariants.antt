use Rattle.std.proofs.Common.{take}
use Rattle.csp_term.specs.Script.{script_of}
use Rattle.explain_program.specs.Asking.{request_of}
use Rattle.explain_program.specs.Giving.{AreTold, GoesOut}
use Rattle.explain_program.proofs.explaining.explain_each.Given as goal
use Rattle.named_scripts.specs.Naming.{labels_of}

abbrev pub invariant-loop-place : goal.invariant-loop-place
invariant-loop-place g l =
    AreTold (request_of l.settings) (script_of l.named.script) (labels_of l.named) 1 (take l.place (script_of l.named.script).assertions)
    (GoesOut (g.O.Sink.taken l.initial.out) (g.O.Sink.taken l.out) (g.O.Sink.has_failed l.out) l.status)
