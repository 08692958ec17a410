-- The refusals of a text: the number and the rule of each.
use Rattle.std.specs.Prelude.{ℕ, List, [], ◌∷◌, codes}
use Rattle.std.specs.List.{concat}
use Rattle.theory_text.specs.Reading.{grammar_fault_spelling, text_fault_spelling}
use Rattle.theory_checking.specs.Checked.{kind_fault_spelling}
use Rattle.csp_lex.specs.Refusals as lexer
use Rattle.csp_parse.specs.Refusals as parser
use Rattle.csp_names.specs.Refusals as names
use Rattle.diagnostics.specs.declared.faults.Fault.{Fault}
use Rattle.diagnostics.specs.declared.faults.Fault.TheVariants as fault
use Rattle.diagnostics.specs.Rules.{grammar_rule, kind_rule, text_rule}

abbrev pub fault_number : Fault → List ℕ
fault_number (fault.Text f) = text_fault_spelling (lexer.fault_of f)
fault_number (fault.Grammar f) = grammar_fault_spelling (parser.fault_of f)
fault_number (fault.Kinds f) = kind_fault_spelling (names.fault_of f)

abbrev pub fault_rule : Fault → List ℕ
fault_rule (fault.Text f) = text_rule f
fault_rule (fault.Grammar f) = grammar_rule f
fault_rule (fault.Kinds f) = kind_rule f

-- the line of a fault in the list of refusals
abbrev pub list_line : Fault → List ℕ
list_line f = concat (codes "  " ∷ fault_number f ∷ codes "  " ∷ fault_rule f ∷ codes "\n" ∷ [])
