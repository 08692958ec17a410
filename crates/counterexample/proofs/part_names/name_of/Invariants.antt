use Rattle.std.proofs.Common.{◌≡◌, drop, map}
use Rattle.theory_explanation.specs.PartNames.{name_of}
use Rattle.csp_moves.specs.Passage.{side_of}
use Rattle.counterexample.specs.PartNames.{part_names_listed}
use Rattle.counterexample.proofs.part_names.name_of.Given as goal

abbrev pub invariant-loop-part : goal.invariant-loop-part
invariant-loop-part g l = name_of (part_names_listed (drop l.part-index l.parts)) (map side_of l.way) ≡ name_of (part_names_listed l.parts) (map side_of l.way)
