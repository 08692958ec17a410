-- Explanations that are given to a sink.
use Rattle.std.specs.Prelude.{◌≡◌, ℕ, Bool, List, Option}
use Rattle.theory_syntax.specs.Process.{Script, Assertion}
use Rattle.theory_syntax.specs.Readings.{by_tau}
use Rattle.theory_search.specs.Outcome.{Outcome}
use Rattle.report.specs.Sending.{Sends, Breaks}
use Rattle.program.specs.Answering.{AreRight}
use Rattle.program.specs.Given.{Sent}
use Rattle.program.specs.Running.{status_of}
use Rattle.explain_program.specs.Asking.{Request}
use Rattle.named_scripts.specs.Naming.{Labels}
use Rattle.explain_program.specs.Telling.{TellsEach}
use Rattle.explain_program.specs.declared.untold.Untold.{Untold}
use Rattle.explain_program.specs.declared.untold.Untold.TheVariants as untold

-- Where memory was refused nothing went out, and where the output failed a beginning did.
abbrev pub LeavesText : Untold → ((List ℕ → Type 0) → Type 0) → Sent → Type 0
LeavesText untold.Memory Told out = out.Unchanged
LeavesText untold.Output Told out = Told (Breaks out.old out.new out.failed)

-- Right outcomes of the assertions, as the names of the script are read, told one behind the other and numbered from the
-- first, of which so much went out.
pub record AreTold (request : Request) (script : Script) (labels : Labels) (first : ℕ) (assertions : List Assertion) (WentOut : List Outcome → List ℕ → Type 0) : Type 0 where
  pub outcomes : List Outcome
  pub text : List ℕ
  pub right : AreRight script.unfolds (by_tau script) request.bounds assertions outcomes
  pub told : TellsEach request script labels first assertions outcomes text
  pub went_out : WentOut outcomes text

-- all of it went out, and the status is that of the outcomes
pub record GoesOut (old new : Option (List ℕ)) (failed : Bool) (status : ℕ) (outcomes : List Outcome) (text : List ℕ) : Type 0 where
  pub bytes : Sends old new failed text
  pub status_is : status ≡ status_of outcomes
