-- The number of a cause.
use Rattle.std.proofs.Common.{sym, ap}
use Rattle.theory_semantics.specs.Meaning.Causes.{cause_number}
use Rattle.csp_expression.specs.Fault.{cause_of}
use Rattle.csp_expression.proofs.fault.Fault.number.Goals as goal

pub returns-in-Empty : goal.returns-in-Empty
returns-in-Empty c = ap (λ f. cause_number (cause_of f)) (sym c.in-Empty.is)
