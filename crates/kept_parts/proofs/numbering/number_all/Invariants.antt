use Rattle.std.proofs.Common.{take}
use Rattle.kept_parts.specs.Changed.{Extends}
use Rattle.kept_parts.specs.KnownSteps.{AreKnown, processes_of}
use Rattle.csp_numbers.specs.Lists.{processes_of as processes_lent}
use Rattle.kept_parts.specs.Rows.{AreNumbersOf}
use Rattle.kept_parts.proofs.numbering.number_all.Given as goal

abbrev pub invariant-loop-part : goal.invariant-loop-part
invariant-loop-part g l = record {
  known : AreKnown l.known;
  grows : Extends l.fn.known l.known;
  numbers : AreNumbersOf (processes_of l.known) (processes_lent (take l.part-index l.parts)) l.numbers.items;
}
