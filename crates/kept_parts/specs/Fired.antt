-- Steps of a part, and the same by numbers.
use Rattle.std.specs.Prelude.{◌≡◌, List, length, Contains}
use Rattle.theory_syntax.specs.Value.{Action, Event}
use Rattle.theory_syntax.specs.Process.{Process, Script}
use Rattle.csp_rows.specs.declared.step.PartStep.{PartStep}
use Rattle.csp_rows.specs.Rows.{AreStepsNumbered, AreTargetsAmong}
use Rattle.kept_parts.specs.Kept.{IsPartOf}
use Rattle.kept_parts.specs.Places.{IsActionAmong, steps_in}

-- each step leads to a part, by an action that has a number
abbrev pub LeadToParts : Script → List Event → List (Action × Process) → Type 0
LeadToParts script es steps = (x : Action) (u : Process) → Contains steps (x, u) → IsActionAmong es x × IsPartOf script u

-- these are the steps by numbers
pub record AreNumberedSteps (es : List Event) (ps : List Process) (ss : List PartStep) (steps : List (Action × Process)) : Type 0 where
  pub value : steps_in es ps ss ≡ steps
  pub numbered : AreStepsNumbered (length es) ss
  pub among : AreTargetsAmong (length ps) ss
