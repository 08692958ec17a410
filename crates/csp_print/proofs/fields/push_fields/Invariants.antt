use Rattle.std.proofs.Common.{◌≡◌, drop, ◌++◌}
use Rattle.std.specs.Prelude.{false}
use Rattle.std.specs.String.{string_bytes}
use Rattle.csp_term.specs.Field.{fields_of}
use Rattle.theory_notation.specs.Processes.{fields_text}
use Rattle.csp_print.specs.Names.{names_of}
use Rattle.csp_print.proofs.fields.push_fields.Given as goal

abbrev pub invariant-loop-field : goal.invariant-loop-field
invariant-loop-field g l =
    string_bytes l.text ++ fields_text (names_of l.names) l.behind_input (fields_of (drop l.field-index l.fields))
    ≡ string_bytes l.initial.text ++ fields_text (names_of l.names) false (fields_of l.fields)
