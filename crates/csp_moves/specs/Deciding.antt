-- Whether a term does a step: by the rules; or, where it does not, nothing is told of it.
use Rattle.std.specs.Prelude.{Bool, true, false, None}
use Rattle.theory_syntax.specs.Value.{Action}
use Rattle.theory_syntax.specs.Process.{Process, Script}
use Rattle.theory_semantics.specs.Meaning.Transitions.{RuleStep}
use Rattle.theory_origins.specs.Telling.{Tells}

abbrev pub IsDecided : Script → Process → Action → Process → Bool → Type 0
IsDecided s p x t true = RuleStep s p x t
IsDecided s p x t false = Tells s p x t None
