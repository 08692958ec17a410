use Rattle.std.proofs.Common.{◌≡◌, drop, ◌++◌}
use Rattle.std.specs.String.{string_bytes}
use Rattle.csp_value.specs.Action.{event_of}
use Rattle.theory_explanation.specs.Origins.{doers_behind}
use Rattle.counterexample.specs.Doers.{doers_listed}
use Rattle.counterexample.specs.PartNames.{legend_of}
use Rattle.counterexample.proofs.doers.push_doers_behind.Given as goal

abbrev pub invariant-loop-doer : goal.invariant-loop-doer
invariant-loop-doer g l =
    string_bytes l.text ++ doers_behind (legend_of l.legend) (event_of l.seen) (doers_listed (drop l.doer-index l.doers))
    ≡ string_bytes l.initial.text ++ doers_behind (legend_of l.legend) (event_of l.seen) (doers_listed l.doers)
