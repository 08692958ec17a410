-- The word of a cause.
use Rattle.std.proofs.Common.{sym, ap}
use Rattle.theory_semantics.specs.Meaning.Causes.{cause_word}
use Rattle.csp_expression.specs.Fault.{cause_of}
use Rattle.csp_expression.proofs.fault.Fault.word.Goals as goal

pub returns-in-Range : goal.returns-in-Range
returns-in-Range c = ap (λ f. cause_word (cause_of f)) (sym c.in-Range.is)
