-- Kinds do not hang on how names are read.
use Rattle.theory_syntax.specs.Process.{AtOnce}
use Rattle.theory_semantics.proofs.ReadingKinds.{checked_read}
use Rattle.csp_term.specs.Script.{script_of_parts}
use Rattle.csp_term.proofs.checked_script.Script.at_once.Goals as goal

pub invariant_of-result : goal.invariant_of-result
invariant_of-result g c = checked_read AtOnce (script_of_parts c.self.inside.parts) c.self.invariant
