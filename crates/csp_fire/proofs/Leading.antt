-- The steps of a term of a script lead to terms of it.
use Rattle.theory_syntax.specs.Process.{Process, Script}
use Rattle.theory_semantics.specs.Kinds.Scripts.{IsTermOf}
use Rattle.theory_semantics.specs.Meaning.Expansions.{Form, Fired, FiredFaulty, FiredLarge, IsFormOf}
use Rattle.theory_semantics.proofs.KindedSteps.{step_closed}
use Rattle.csp_fire.specs.Targets.{LeadsToTermsOf}

pub leads : (s : Script) (t : Process) (form : Form) → IsTermOf s t → IsFormOf s t form → LeadsToTermsOf s form
leads s t (Fired steps offers) h is = λ x u has. (h.0, h.1, step_closed s h.0 h.1.sets h.1.equations t x u ((is.each_step x u).1 has) h.2)
leads s t (FiredFaulty c) h is = tt
leads s t FiredLarge h is = tt
