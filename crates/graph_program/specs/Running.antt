-- What a run of the program prints and answers.
use Rattle.std.specs.Prelude.{◌≡◌, ℕ, List}
use Rattle.theory_syntax.specs.Process.{Script}
use Rattle.theory_syntax.specs.Readings.{reading}
use Rattle.report.specs.Sending.{Sends, Breaks}
use Rattle.graph_settings.specs.Faults.{AreWrong}
use Rattle.program.specs.Beginning.{IsBeginning}
use Rattle.program.specs.Given.{Given, Sent}
use Rattle.program.specs.Refusal.{refusal_line}
use Rattle.program.specs.Running.{IsCause, IsGiven, IsScriptOfFile}
use Rattle.program.specs.declared.files.Lack.{Lack}
use Rattle.program.specs.declared.refusal.Refusal.{Refusal}
use Rattle.program.specs.declared.refusal.Refusal.TheVariants as refusal
use Rattle.told_refusals.specs.FileNames.{unread_line}
use Rattle.told_refusals.specs.Refusals.{TellsRefusal}
use Rattle.graph_program.specs.Asking.{AskForGraph, AskForText, Request}
use Rattle.graph_program.specs.Giving.{IsCutOff, IsPrinted}
use Rattle.graph_program.specs.Stops.{IsStopIn, stop_line}
use Rattle.graph_program.specs.declared.stop.Stop.{Stop}
use Rattle.graph_program.specs.declared.stop.Stop.TheVariants as stop

-- this is so of the file's script, with its names read as is asked
pub record IsSoOfFile (given : Given) (request : Request) (IsSo : Script → Type 0) : Type 0 where
  pub script : Script
  pub of_file : IsScriptOfFile given.may_hold request.name script
  pub is_so : IsSo (reading request.names script)

-- the text of the graph that is asked for went out, whole
abbrev pub IsDrawn : Given → Request → Sent → Type 0
IsDrawn given request out = IsSoOfFile given request (λ script. IsPrinted request script out)

-- the words ask for a text, which went out; or they ask for a graph, whose text did
pub data IsServed (given : Given) (words : List (List ℕ)) (out : Sent) : Type 0 where
  shown : (text : List ℕ) → AskForText words → Sends out.old out.new out.failed text → IsServed given words out
  drawn : (request : Request) → AskForGraph words request → IsDrawn given request out → IsServed given words out

-- ---- refusals

-- why the request is not met
abbrev pub IsStopCause : Given → Request → Stop → Type 0
IsStopCause given request (stop.Refused why) = IsCause given request.name why
IsStopCause given request why = IsSoOfFile given request (λ script. IsStopIn request script why)

-- What the output is left with: nothing new, or where it has failed, a beginning of the text of the graph that is asked for.
abbrev pub Leaves : Given → Request → Stop → Sent → Type 0
Leaves given request (stop.Refused refusal.Output) out = IsSoOfFile given request (λ script. IsCutOff request script out)
Leaves given request why out = out.Unchanged

-- What is told of what stops a run: its line, of a file that cannot be read the same with its name and the reason, or of a
-- text that is refused the message on what is read of the file.
pub data TellsStop (given : Given) (name : List ℕ) (why : Stop) (err : Sent) : Type 0 where
  by_line : IsGiven err (stop_line why) → TellsStop given name why err
  of_name : (lack : Lack) → why ≡ stop.Refused (refusal.File lack) → IsGiven err (unread_line name lack) → TellsStop given name why err
  of_text : (refused : Refusal) (bytes : List ℕ) → why ≡ stop.Refused refused → IsBeginning (given.may_hold name) bytes → TellsRefusal name bytes refused err → TellsStop given name why err

-- A request is not met, with the cause, which the error output is told, and the other one is left so.
pub record IsStopped (given : Given) (request : Request) (out err : Sent) : Type 0 where
  pub why : Stop
  pub cause : IsStopCause given request why
  pub output : Leaves given request why out
  pub told : TellsStop given request.name why err

-- A run is refused: its words are wrong, and the command line's own text was given to the error output; memory was
-- refused for the words; the text that they ask for was cut off; or what they ask for is stopped.
pub data IsRefused (given : Given) (words : List (List ℕ)) (out err : Sent) : Type 0 where
  wrong_words : (text : List ℕ) → AreWrong words → out.Unchanged → IsGiven err text → IsRefused given words out err
  no_memory : out.Unchanged → IsGiven err (refusal_line refusal.Memory) → IsRefused given words out err
  cut_text : (text : List ℕ) → AskForText words → Breaks out.old out.new out.failed text → IsGiven err (refusal_line refusal.Output) → IsRefused given words out err
  of_request : (request : Request) → AskForGraph words request → IsStopped given request out err → IsRefused given words out err
