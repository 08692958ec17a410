-- The kinds that fit a script fit its copy.
use Rattle.std.proofs.Common.{subst, sym}
use Rattle.theory_semantics.specs.Kinds.Scripts.{IsCheckedScript}
use Rattle.csp_term.proofs.checked_script.ScriptTryCopy.try_copy.Goals as goal

pub invariant_of-result : goal.invariant_of-result
invariant_of-result g c = subst IsCheckedScript (sym c.in_ok-parts.ensures) c.self.invariant
