-- What the targets of steps are.
use Rattle.std.specs.Prelude.{⊤, Contains}
use Rattle.theory_syntax.specs.Value.{Action}
use Rattle.theory_syntax.specs.Process.{Process, Script}
use Rattle.theory_semantics.specs.Kinds.Scripts.{IsTermOf}
use Rattle.theory_semantics.specs.Meaning.Expansions.{Form, Fired, FiredFaulty, FiredLarge}

-- the steps of the form, if it has any, lead to terms of the script
abbrev pub LeadsToTermsOf : Script → Form → Type 0
LeadsToTermsOf s (Fired steps offers) = (x : Action) (u : Process) → Contains steps (x, u) → IsTermOf s u
LeadsToTermsOf s (FiredFaulty c) = ⊤
LeadsToTermsOf s FiredLarge = ⊤
