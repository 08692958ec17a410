use Rattle.std.proofs.Common.{◌≡◌, drop, ◌++◌}
use Rattle.std.specs.String.{string_bytes}
use Rattle.theory_explanation.specs.Folding.{names_behind}
use Rattle.csp_print.specs.Names.{names_of}
use Rattle.counterexample.specs.Folding.{equations_listed}
use Rattle.counterexample.proofs.folding.push_names_behind.Given as goal

abbrev pub invariant-loop-equation : goal.invariant-loop-equation
invariant-loop-equation g l =
    string_bytes l.text ++ names_behind (names_of l.names) (equations_listed (drop l.equation-index l.equations))
    ≡ string_bytes l.initial.text ++ names_behind (names_of l.names) (equations_listed l.equations)
