-- The line of a refusal.
use Rattle.std.specs.Prelude.{ℕ, List, [], ◌∷◌, codes, decimal}
use Rattle.std.specs.List.{concat}
use Rattle.theory_text.specs.Reading.{text_fault_spelling, grammar_fault_spelling}
use Rattle.csp_lex.specs.declared.places.Place.{Place}
use Rattle.csp_lex.specs.declared.refusals.Refused.TheVariants as lexer_fault
use Rattle.csp_lex.specs.declared.refusals.Refused as no_tokens
use Rattle.csp_lex.specs.Refusals as lexer
use Rattle.csp_parse.specs.declared.refusals.Refused.TheVariants as parser_fault
use Rattle.csp_parse.specs.declared.refusals.Refused as no_script
use Rattle.csp_parse.specs.Refusals as parser
use Rattle.theory_checking.specs.Checked.{kind_fault_spelling}
use Rattle.csp_names.specs.declared.refusals.Refused.TheVariants as kind_fault
use Rattle.csp_names.specs.declared.refusals.Refused as no_kinds
use Rattle.csp_names.specs.Refusals as names
use Rattle.program.specs.declared.refusal.Refusal.{Refusal}
use Rattle.program.specs.declared.refusal.Refusal.TheVariants as refusal
use Rattle.program.specs.declared.files.Unread.{Unread}
use Rattle.program.specs.declared.files.Unread.TheVariants as unread

-- `refused`, the number of the refusal, and its line and column
abbrev pub place_line : List ℕ → Place → List ℕ
place_line number p = concat (codes "refused " ∷ number ∷ codes " at " ∷ decimal p.line ∷ codes ":" ∷ decimal p.column ∷ codes "\n" ∷ [])

abbrev pub refusal_line : Refusal → List ℕ
refusal_line (refusal.File why) = codes "refused file\n"
refusal_line (refusal.Text f p) = place_line (text_fault_spelling (lexer.fault_of f)) p
refusal_line (refusal.Grammar f p) = place_line (grammar_fault_spelling (parser.fault_of f)) p
refusal_line (refusal.Kinds f p) = place_line (kind_fault_spelling (names.fault_of f)) p
refusal_line refusal.Memory = codes "refused memory\n"
refusal_line refusal.Thread = codes "refused thread\n"
refusal_line refusal.Output = codes "refused output\n"

-- what is refused where a file is not read
abbrev pub of_file : Unread → Refusal
of_file (unread.File why) = refusal.File why
of_file unread.Memory = refusal.Memory

-- what is refused where a text has no tokens
abbrev pub of_lexer : no_tokens.Refused → Refusal
of_lexer (lexer_fault.Text f p) = refusal.Text f p
of_lexer lexer_fault.Memory = refusal.Memory

-- what is refused where tokens are no script
abbrev pub of_parser : no_script.Refused → Refusal
of_parser (parser_fault.Grammar f p) = refusal.Grammar f p
of_parser parser_fault.Memory = refusal.Memory

-- what is refused where a tree has no checked script
abbrev pub of_kinds : no_kinds.Refused → Refusal
of_kinds (kind_fault.Fault f p) = refusal.Kinds f p
of_kinds kind_fault.Memory = refusal.Memory
