-- Explanations of the assertions of a file.
use Rattle.std.specs.Prelude.{◌≡◌, ◌≢◌, ◌≤◌, ◌<◌, ℕ, List, [], length, take}
use Rattle.theory_syntax.specs.Process.{Script}
use Rattle.theory_syntax.specs.Readings.{reading}
use Rattle.report.specs.Sending.{Sends, Breaks}
use Rattle.explain_settings.specs.declared.format.Format.{Format}
use Rattle.program.specs.Given.{Given, Sent}
use Rattle.program.specs.Running.{IsGiven}
use Rattle.program.specs.declared.refusal.Refusal.TheVariants as refusal
use Rattle.explain_program.specs.Asking.{Request, chosen, first_number}
use Rattle.explain_program.specs.Giving.{AreTold, GoesOut}
use Rattle.named_scripts.specs.Naming.{IsNamedFile, Labels}
use Rattle.explain_program.specs.Refusals.{none_text}
use Rattle.explain_program.specs.declared.stop.Stop.{Stop}
use Rattle.explain_program.specs.declared.stop.Stop.TheVariants as stop

-- all that is asked for went out, and the status is that of the outcomes
pub record TellsAll (request : Request) (script : Script) (labels : Labels) (out : Sent) (status : ℕ) : Type 0 where
  pub there : request.number ≤ length script.assertions
  pub told : AreTold request script labels (first_number request.number) (chosen request.number script.assertions) (GoesOut out.old out.new out.failed status)

-- the explanations of the first few that are asked for, of which so much went out
pub record TellsFew (request : Request) (script : Script) (labels : Labels) (WentOut : List ℕ → Type 0) : Type 0 where
  pub few : ℕ
  pub told : AreTold request script labels (first_number request.number) (take few (chosen request.number script.assertions)) (λ outcomes text. WentOut text)

-- What stops it, and what went out till then: nothing where the script has no such assertion; where memory was refused,
-- the first few explanations; and a beginning of them where the output failed.
abbrev pub StopsBy : Request → Script → Labels → Stop → Sent → Type 0
StopsBy request script labels stop.NoAssertion out = (length script.assertions < request.number) × out.Unchanged
StopsBy request script labels (stop.Refused refusal.Memory) out = TellsFew request script labels (Sends out.old out.new out.failed)
StopsBy request script labels (stop.Refused refusal.Output) out = TellsFew request script labels (Breaks out.old out.new out.failed)
StopsBy request script labels (stop.Refused _) out = ⊥

-- A script without assertions was noted: the error output was given the note. Of any other it was given nothing.
pub record IsNotedOf (format : Format) (script : Script) (err : Sent) : Type 0 where
  pub none : script.assertions ≡ [] → IsGiven err (none_text format)
  pub some : script.assertions ≢ [] → err.Unchanged

-- ---- of a file

-- The explanations of all that is asked for of the file's script, with its names read as is asked, went out, and the status
-- is that of the outcomes. Where the script has no assertion, that is noted.
pub record IsExplained (given : Given) (request : Request) (out err : Sent) (status : ℕ) : Type 0 where
  pub script : Script
  pub labels : Labels
  pub of_file : IsNamedFile given.may_hold request.name script labels
  pub told : TellsAll request (reading request.names script) labels out status
  pub noted : IsNotedOf request.format script err

-- the explanations of the first few of them, of which so much went out
pub record IsBegun (given : Given) (request : Request) (WentOut : List ℕ → Type 0) : Type 0 where
  pub script : Script
  pub labels : Labels
  pub of_file : IsNamedFile given.may_hold request.name script labels
  pub told : TellsFew request (reading request.names script) labels WentOut

-- The file's script has fewer assertions than the number.
pub record LacksAssertion (given : Given) (request : Request) : Type 0 where
  pub script : Script
  pub labels : Labels
  pub of_file : IsNamedFile given.may_hold request.name script labels
  pub fewer : length script.assertions < request.number
