use Rattle.std.proofs.Common.{◌≡◌, drop}
use Rattle.diagnostics.specs.Advice.{first_advice}
use Rattle.diagnostics.proofs.tables.first_advice.Given as goal

abbrev pub invariant-loop-advice : goal.invariant-loop-advice
invariant-loop-advice l = first_advice (drop l.advice-index l.table) l.around ≡ first_advice l.table l.around
