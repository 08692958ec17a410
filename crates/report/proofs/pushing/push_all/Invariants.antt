use Rattle.std.proofs.Common.{length}
use Rattle.report.proofs.Sending.{IsUnderWay}
use Rattle.report.proofs.pushing.push_all.Given as goal

abbrev pub invariant-loop-rest : goal.invariant-loop-rest
invariant-loop-rest g l = IsUnderWay (g.S.Sink.taken l.initial.sink) (g.S.Sink.taken l.sink) (g.S.Sink.has_failed l.sink) l.text l.rest

abbrev pub decreases-loop-rest : goal.decreases-loop-rest
decreases-loop-rest g l = length l.rest
