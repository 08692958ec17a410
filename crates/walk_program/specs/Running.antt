-- What a run of the program prints and answers.
use Rattle.std.specs.Prelude.{◌≡◌, ◌<◌, ◌⊎◌, ⊤, ℕ, List, length}
use Rattle.theory_syntax.specs.Process.{Script}
use Rattle.theory_syntax.specs.Readings.{reading}
use Rattle.theory_notation.specs.Names.{Names}
use Rattle.report.specs.Sending.{Sends, Breaks}
use Rattle.program.specs.Beginning.{IsBeginning}
use Rattle.program.specs.Given.{Given, Sent}
use Rattle.program.specs.Refusal.{refusal_line}
use Rattle.program.specs.Running.{IsCause, IsGiven}
use Rattle.program.specs.declared.files.Lack.{Lack}
use Rattle.program.specs.declared.refusal.Refusal.{Refusal}
use Rattle.program.specs.declared.refusal.Refusal.TheVariants as refusal
use Rattle.told_refusals.specs.FileNames.{unread_line}
use Rattle.told_refusals.specs.Refusals.{TellsRefusal}
use Rattle.walk_settings.specs.Faults.{AreWrong}
use Rattle.walk_program.specs.Asking.{AskForText, AskForWalk, Request}
use Rattle.walk_program.specs.Lines.{Left}
use Rattle.named_scripts.specs.Naming.{IsNamedFile, Labels}
use Rattle.walk_program.specs.Stops.{LacksSide, stop_line}
use Rattle.walk_program.specs.Walking.{IsBegun, IsWalked}
use Rattle.walk_program.specs.declared.stop.Stop.{Stop}
use Rattle.walk_program.specs.declared.stop.Stop.TheVariants as stop

-- this is so of the file's script, with its names read as is asked, and of their spellings
pub record IsSoOfFile (given : Given) (request : Request) (IsSo : Script → Names → Type 0) : Type 0 where
  pub script : Script
  pub labels : Labels
  pub of_file : IsNamedFile given.may_hold request.name script labels
  pub is_so : IsSo (reading request.names script) labels.names

-- the text of the walk that is asked for went out, to its end
abbrev pub IsShown : Given → Request → Left → Sent → Type 0
IsShown given request input out = IsSoOfFile given request (λ script names. IsWalked request script names input out)

-- so much went out of the text of a beginning of it
abbrev pub IsLeft : Given → Request → Left → (List ℕ → Type 0) → Type 0
IsLeft given request input WentOut = IsSoOfFile given request (λ script names. IsBegun request script names input WentOut)

-- the words ask for a text, which went out; or they ask for a walk, whose text did
pub data IsServed (given : Given) (words : List (List ℕ)) (input : Left) (out : Sent) : Type 0 where
  shown : (text : List ℕ) → AskForText words → Sends out.old out.new out.failed text → IsServed given words input out
  walked : (request : Request) → AskForWalk words request → IsShown given request input out → IsServed given words input out

-- ---- refusals

-- Why the walk did not come to its end. That the input failed says nothing of the file.
abbrev pub IsStopCause : Given → Request → Stop → Type 0
IsStopCause given request (stop.Refused why) = IsCause given request.name why
IsStopCause given request stop.NoAssertion = IsSoOfFile given request (λ script names. length script.assertions < request.number)
IsStopCause given request stop.NoSpecification = IsSoOfFile given request (λ script names. LacksSide request script)
IsStopCause given request stop.Input = ⊤

-- What the output is left with: nothing new; or where memory was refused or the input failed in between, the walk so far; or
-- where the output did, a beginning of that.
abbrev pub Leaves : Given → Request → Left → Stop → Sent → Type 0
Leaves given request input stop.Input out = IsLeft given request input (Sends out.old out.new out.failed)
Leaves given request input (stop.Refused refusal.Memory) out = out.Unchanged ⊎ IsLeft given request input (Sends out.old out.new out.failed)
Leaves given request input (stop.Refused refusal.Output) out = IsLeft given request input (Breaks out.old out.new out.failed)
Leaves given request input why out = out.Unchanged

-- What is told of what stops a run: its line, of a file that cannot be read the same with its name and the reason, or of a
-- text that is refused the message on what is read of the file.
pub data TellsStop (given : Given) (name : List ℕ) (why : Stop) (err : Sent) : Type 0 where
  by_line : IsGiven err (stop_line why) → TellsStop given name why err
  of_name : (lack : Lack) → why ≡ stop.Refused (refusal.File lack) → IsGiven err (unread_line name lack) → TellsStop given name why err
  of_text : (refused : Refusal) (bytes : List ℕ) → why ≡ stop.Refused refused → IsBeginning (given.may_hold name) bytes → TellsRefusal name bytes refused err → TellsStop given name why err

-- A walk did not come to its end, with the cause, which the error output is told, and the other one is left so.
pub record IsStopped (given : Given) (request : Request) (input : Left) (out err : Sent) : Type 0 where
  pub why : Stop
  pub cause : IsStopCause given request why
  pub output : Leaves given request input why out
  pub told : TellsStop given request.name why err

-- A run is refused: its words are wrong, and the command line's own text was given to the error output; memory was
-- refused for the words; the text that they ask for was cut off; or the walk that they ask for is stopped.
pub data IsRefused (given : Given) (words : List (List ℕ)) (input : Left) (out err : Sent) : Type 0 where
  wrong_words : (text : List ℕ) → AreWrong words → out.Unchanged → IsGiven err text → IsRefused given words input out err
  no_memory : out.Unchanged → IsGiven err (refusal_line refusal.Memory) → IsRefused given words input out err
  cut_text : (text : List ℕ) → AskForText words → Breaks out.old out.new out.failed text → IsGiven err (refusal_line refusal.Output) → IsRefused given words input out err
  of_walk : (request : Request) → AskForWalk words request → IsStopped given request input out err → IsRefused given words input out err
