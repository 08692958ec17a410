-- What is kept of a part.
use Rattle.std.specs.Prelude.{◌≡◌, IsTrue, Bool, true, false, List, length, Option, Some, None, Contains, ◌↔◌}
use Rattle.std.specs.declared.vec.Vec.{Vec}
use Rattle.theory_syntax.specs.Value.{Action, Event}
use Rattle.theory_syntax.specs.Process.{Process, Script}
use Rattle.theory_semantics.specs.Kinds.Scripts.{IsTermOf}
use Rattle.theory_semantics.specs.Meaning.Expansions.{step_cmp}
use Rattle.theory_semantics.specs.Meaning.Limits.{depth, fits, size}
use Rattle.theory_semantics.specs.Meaning.Offers.{RisesBy}
use Rattle.theory_semantics.specs.Meaning.Transitions.{IsNotStuck, IsStuck, RuleStep}
use Rattle.theory_spelling.specs.Spellable.{IsSpellable}
use Rattle.theory_spelling.specs.Spelling.{spelling}
use Rattle.csp_rows.specs.declared.part.Part.{Part}
use Rattle.csp_rows.specs.declared.step.PartStep.{PartStep}
use Rattle.csp_rows.specs.Rows.{AreStepsNumbered, AreTargetsAmong}
use Rattle.kept_parts.specs.Places.{steps_in}

-- a part is a term of the script, and within the limits
pub record IsPartOf (script : Script) (p : Process) : Type 0 where
  pub closed : IsTermOf script p
  pub within : IsTrue (fits p)

-- It has a spelling of its own. What is kept are its bytes, and what it measures.
pub record IsKeptOf {A : Type 0} (p : Process) (part : Part A) : Type 0 where
  pub spellable : IsSpellable p
  pub spelled : part.spelling.items ≡ spelling p
  pub size : part.size ≡ size p
  pub depth : part.depth ≡ depth p

-- These are exactly the steps of a term that is not stuck, by action and then by target, each once. Each of their numbers
-- is that of an event or a part.
pub record AreItsSteps (script : Script) (es : List Event) (ps : List Process) (p : Process) (ss : List PartStep) : Type 0 where
  pub not_stuck : IsNotStuck script p
  pub each_step : (x : Action) (u : Process) → RuleStep script p x u ↔ Contains (steps_in es ps ss) (x, u)
  pub rise : RisesBy step_cmp (steps_in es ps ss)
  pub numbered : AreStepsNumbered (length es) ss
  pub among : AreTargetsAmong (length ps) ss

-- what firing a part has shown: its steps, or that it is faulty or large
abbrev pub Shows : {A : Type 0} → Script → List Event → List Process → Process → Option (Vec PartStep A) → Type 0
Shows script es ps p (Some ss) = AreItsSteps script es ps p ss.items
Shows script es ps p None = IsStuck script p

-- nothing is kept of the steps of a part before it is fired
abbrev pub IsShown : {A : Type 0} → Script → List Event → List Process → Process → Bool → Option (Vec PartStep A) → Type 0
IsShown script es ps p true steps = Shows script es ps p steps
IsShown script es ps p false steps = steps ≡ None
