-- The lines so far, and those that are left.
use Rattle.std.proofs.Common.{◌≡◌, ◌+◌, ◌++◌, drop}
use Rattle.std.specs.String.{string_bytes}
use Rattle.theory_explanation.specs.Legend.{legend}
use Rattle.theory_walk.specs.Views.{move_lines}
use Rattle.csp_print.specs.Names.{names_of}
use Rattle.counterexample.specs.PartNames.{part_names_listed}
use Rattle.state_walk.specs.Walks.{moves_listed}
use Rattle.state_walk.proofs.view.push_moves.Given as goal

abbrev pub invariant-loop-place : goal.invariant-loop-place
invariant-loop-place g l =
    string_bytes l.text ++ move_lines (legend (names_of l.names) (part_names_listed l.parts)) (l.place + 1) (moves_listed (drop l.place l.moves))
    ≡ string_bytes l.initial.text ++ move_lines (legend (names_of l.names) (part_names_listed l.parts)) 1 (moves_listed l.moves)
