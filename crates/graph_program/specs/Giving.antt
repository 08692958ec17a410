-- The text of a graph that is given to an output.
use Rattle.std.specs.Prelude.{ℕ, List}
use Rattle.theory_syntax.specs.Process.{Script}
use Rattle.report.specs.Sending.{Sends, Breaks}
use Rattle.program.specs.Given.{Sent}
use Rattle.program.specs.declared.refusal.Refusal.TheVariants as refusal
use Rattle.graph_program.specs.Asking.{Request}
use Rattle.graph_program.specs.Graphs.{IsGraphText}
use Rattle.graph_program.specs.Stops.{IsStopIn}
use Rattle.graph_program.specs.declared.stop.Stop.{Stop}
use Rattle.graph_program.specs.declared.stop.Stop.TheVariants as stop

-- it went out, whole
pub record IsPrinted (request : Request) (script : Script) (out : Sent) : Type 0 where
  pub text : List ℕ
  pub of_graph : IsGraphText request script text
  pub bytes : Sends out.old out.new out.failed text

-- a beginning of it went out, and the output has failed
pub record IsCutOff (request : Request) (script : Script) (out : Sent) : Type 0 where
  pub text : List ℕ
  pub of_graph : IsGraphText request script text
  pub bytes : Breaks out.old out.new out.failed text

-- Why it did not go out whole: the output has failed, or there is no such text, and then nothing of it went out.
abbrev pub IsUnprinted : Request → Script → Stop → Sent → Type 0
IsUnprinted request script (stop.Refused refusal.Output) out = IsCutOff request script out
IsUnprinted request script why out = IsStopIn request script why × out.Unchanged
