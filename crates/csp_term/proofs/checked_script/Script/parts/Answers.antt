-- The kinds of what is held fit.
use Rattle.std.proofs.Common.{subst}
use Rattle.theory_semantics.specs.Kinds.Scripts.{IsCheckedScript}
use Rattle.csp_term.proofs.checked_script.Script.parts.Goals as goal

pub returns-clause-checked : goal.returns-clause-checked
returns-clause-checked g c = subst IsCheckedScript c.self.view_is c.self.invariant
