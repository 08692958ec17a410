use Rattle.std.proofs.Common.{◌≡◌, drop, ◌++◌, map}
use Rattle.std.specs.String.{string_bytes}
use Rattle.csp_moves.specs.Passage.{side_of}
use Rattle.theory_explanation.specs.Legend.{way_behind}
use Rattle.counterexample.proofs.ways.push_sides_behind.Given as goal

abbrev pub invariant-loop-side : goal.invariant-loop-side
invariant-loop-side g l = string_bytes l.text ++ way_behind (map side_of (drop l.side-index l.way)) ≡ string_bytes l.initial.text ++ way_behind (map side_of l.way)
