use Rattle.std.proofs.Common.{map, drop}
use Rattle.std.specs.List.{concat}
use Rattle.report.proofs.Sending.{IsUnderWay}
use Rattle.report.proofs.pushing.push_each.Given as goal

abbrev pub invariant-loop-text : goal.invariant-loop-text
invariant-loop-text g l =
    IsUnderWay (g.S.Sink.taken l.initial.sink) (g.S.Sink.taken l.sink) (g.S.Sink.has_failed l.sink) (concat (map (λ text. text.now) l.texts)) (concat (map (λ text. text.now) (drop l.text-index l.texts)))
