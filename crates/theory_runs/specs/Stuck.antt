-- What a term is stuck by.
use Rattle.std.specs.Prelude.{List, []}
use Rattle.theory_syntax.specs.Value.{Action}
use Rattle.theory_syntax.specs.Process.{Process, Script}
use Rattle.theory_semantics.specs.Meaning.Evaluation.{Cause}
use Rattle.theory_semantics.specs.Meaning.Expansions.{Form, Fired, FiredFaulty, FiredLarge}
use Rattle.theory_semantics.specs.Meaning.Transitions.{IsFaulty, IsLarge}

-- that a rule lacks a value, for this cause, or a size
pub data Hindrance : Type 0 where
  ByCause : (cause : Cause) → Hindrance
  BySize : Hindrance

abbrev pub IsStuckBy : Script → Process → Hindrance → Type 0
IsStuckBy script t (ByCause c) = IsFaulty script t c
IsStuckBy script t BySize = IsLarge script t

-- ---- what a firing shows

-- the form of a term that is stuck by this
abbrev pub stuck_form : Hindrance → Form
stuck_form (ByCause c) = FiredFaulty c
stuck_form BySize = FiredLarge

-- the steps of a form, none of one that is stuck
abbrev pub steps_in : Form → List (Action × Process)
steps_in (Fired steps offers) = steps
steps_in (FiredFaulty c) = []
steps_in FiredLarge = []
