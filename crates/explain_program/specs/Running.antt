-- What a run of the program prints and answers.
use Rattle.std.specs.Prelude.{◌≡◌, ◌⊎◌, ℕ, List}
use Rattle.program.specs.Beginning.{IsBeginning}
use Rattle.report.specs.Sending.{Sends, Breaks}
use Rattle.explain_settings.specs.Faults.{AreWrong}
use Rattle.program.specs.Given.{Given, Sent}
use Rattle.program.specs.Refusal.{refusal_line}
use Rattle.program.specs.Running.{IsCause, IsGiven}
use Rattle.program.specs.declared.files.Lack.{Lack}
use Rattle.program.specs.declared.refusal.Refusal.{Refusal}
use Rattle.program.specs.declared.refusal.Refusal.TheVariants as refusal
use Rattle.explain_program.specs.Asking.{Request, AskForExplanation, AskForText}
use Rattle.explain_program.specs.Explaining.{IsBegun, IsExplained, LacksAssertion}
use Rattle.explain_program.specs.Refusals.{TellsRefusal, stop_line, unread_text}
use Rattle.explain_program.specs.declared.untold.Untold.{Untold}
use Rattle.explain_program.specs.declared.untold.Untold.TheVariants as untold
use Rattle.explain_program.specs.declared.stop.Stop.{Stop}
use Rattle.explain_program.specs.declared.stop.Stop.TheVariants as stop

-- what stops a run where an explanation did not go out
abbrev pub of_untold : Untold → Stop
of_untold untold.Memory = stop.Refused refusal.Memory
of_untold untold.Output = stop.Refused refusal.Output

-- The words ask for a text, which went out, and nothing to the error output; or they ask for explanations, which did, and to
-- that nothing but the note on a script without assertions.
pub data IsServed (given : Given) (words : List (List ℕ)) (out err : Sent) (status : ℕ) : Type 0 where
  shown : (text : List ℕ) → AskForText words → Sends out.old out.new out.failed text → err.Unchanged → status ≡ 0 → IsServed given words out err status
  explained : (request : Request) → AskForExplanation words request → IsExplained given request out err status → IsServed given words out err status

-- why the request is not met
abbrev pub IsStopCause : Given → Request → Stop → Type 0
IsStopCause given request (stop.Refused why) = IsCause given request.name why
IsStopCause given request stop.NoAssertion = LacksAssertion given request

-- What the output is left with: nothing, or where memory was refused or the output failed in between, a beginning of the
-- explanations.
abbrev pub Leaves : Given → Request → Stop → Sent → Type 0
Leaves given request (stop.Refused refusal.Output) out = IsBegun given request (Breaks out.old out.new out.failed)
Leaves given request (stop.Refused refusal.Memory) out = out.Unchanged ⊎ IsBegun given request (Sends out.old out.new out.failed)
Leaves given request _ out = out.Unchanged

-- What is told of what stops a run: its line; of a file that cannot be read its name and the reason too; or of a text that is
-- refused what is told by the message on what is read of the file.
pub data TellsStop (given : Given) (request : Request) (why : Stop) (err : Sent) : Type 0 where
  by_line : IsGiven err (stop_line request.format why) → TellsStop given request why err
  of_name : (lack : Lack) → why ≡ stop.Refused (refusal.File lack) → IsGiven err (unread_text request.format request.name lack) → TellsStop given request why err
  of_text : (refused : Refusal) (bytes : List ℕ) → why ≡ stop.Refused refused → IsBeginning (given.may_hold request.name) bytes → TellsRefusal request.format request.name bytes refused err → TellsStop given request why err

-- A request is not met, with the cause, which the error output is told, and the other one is left so.
pub record IsStopped (given : Given) (request : Request) (out err : Sent) : Type 0 where
  pub why : Stop
  pub cause : IsStopCause given request why
  pub output : Leaves given request why out
  pub told : TellsStop given request why err

-- A run is refused: its words are wrong, and the command line's own text was given to the error output; memory was
-- refused for the words; the text that they ask for was cut off; or what they ask for is stopped.
pub data IsRefused (given : Given) (words : List (List ℕ)) (out err : Sent) : Type 0 where
  wrong_words : (text : List ℕ) → AreWrong words → out.Unchanged → IsGiven err text → IsRefused given words out err
  no_memory : out.Unchanged → IsGiven err (refusal_line refusal.Memory) → IsRefused given words out err
  cut_text : (text : List ℕ) → AskForText words → Breaks out.old out.new out.failed text → IsGiven err (refusal_line refusal.Output) → IsRefused given words out err
  of_request : (request : Request) → AskForExplanation words request → IsStopped given request out err → IsRefused given words out err
