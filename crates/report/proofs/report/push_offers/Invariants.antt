use Rattle.std.proofs.Common.{map, drop}
use Rattle.theory_search.specs.Printing.{action_text}
use Rattle.csp_value.specs.Action.{action_of}
use Rattle.csp_term.specs.Script.{script_of}
use Rattle.verdict.specs.Outcome.{trace_left}
use Rattle.report.proofs.Joining.{following}
use Rattle.report.proofs.Sending.{IsUnderWay}
use Rattle.report.proofs.report.push_offers.Given as goal

abbrev pub invariant-loop-action : goal.invariant-loop-action
invariant-loop-action g l =
    IsUnderWay (g.S.Sink.taken l.initial.sink) (g.S.Sink.taken l.sink) (g.S.Sink.has_failed l.sink)
    (following (map (action_text (script_of l.script)) (map action_of l.others))) (following (map (action_text (script_of l.script)) (map action_of (drop l.action-index l.others))))
