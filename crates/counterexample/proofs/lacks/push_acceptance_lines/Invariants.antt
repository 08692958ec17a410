use Rattle.std.proofs.Common.{◌≡◌, drop, ◌++◌, map}
use Rattle.std.specs.String.{string_bytes}
use Rattle.csp_value.specs.Action.{action_of}
use Rattle.theory_explanation.specs.Counterparts.{acceptance_lines}
use Rattle.csp_print.specs.Names.{names_of}
use Rattle.csp_replay.specs.Offers.{offers_listed}
use Rattle.counterexample.proofs.lacks.push_acceptance_lines.Given as goal

abbrev pub invariant-loop-acceptance : goal.invariant-loop-acceptance
invariant-loop-acceptance g l =
    string_bytes l.text ++ acceptance_lines (names_of l.names) (map action_of l.offer) (offers_listed (drop l.acceptance-index l.acceptances))
    ≡ string_bytes l.initial.text ++ acceptance_lines (names_of l.names) (map action_of l.offer) (offers_listed l.acceptances)
