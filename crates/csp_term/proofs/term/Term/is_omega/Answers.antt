-- No other form stands for the process that has ended.
use Rattle.std.proofs.Common.{◌∙◌}
use Rattle.csp_term.proofs.Ended.{goes_on}
use Rattle.csp_term.proofs.term.Term.is_omega.Goals as goal

pub returns-in_default : goal.returns-in_default
returns-in_default g c = ((λ h. cc h), λ is. absurd (goes_on g.row.A g.A.Allocator c.form.result.now c.in_default.not-Omega (c.form.ensures ∙ is)))
