use Rattle.std.proofs.Common.{◌≡◌, drop, ◌++◌, map}
use Rattle.std.specs.String.{string_bytes}
use Rattle.csp_term.specs.Term.{process_of}
use Rattle.theory_explanation.specs.Counterparts.{specification_lines}
use Rattle.csp_print.specs.Names.{names_of}
use Rattle.counterexample.specs.Widths.{width_of}
use Rattle.counterexample.proofs.specification.push_lines.Given as goal

abbrev pub invariant-loop-state : goal.invariant-loop-state
invariant-loop-state g l =
    string_bytes l.text ++ specification_lines (names_of l.style.names.now) (width_of l.style.width) (map process_of (drop l.state-index l.states))
    ≡ string_bytes l.initial.text ++ specification_lines (names_of l.style.names.now) (width_of l.style.width) (map process_of l.states)
