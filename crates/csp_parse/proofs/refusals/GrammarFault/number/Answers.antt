use Rattle.std.proofs.Common.{sym, ap}
use Rattle.theory_text.specs.Reading.{grammar_fault_spelling}
use Rattle.csp_parse.specs.Refusals.{fault_of}
use Rattle.csp_parse.proofs.refusals.GrammarFault.number.Goals as goal

pub returns-in-Nested : goal.returns-in-Nested
returns-in-Nested c = ap (λ f. grammar_fault_spelling (fault_of f)) (sym c.in-Nested.is)
