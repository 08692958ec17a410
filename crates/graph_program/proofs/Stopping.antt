-- What stops a run, with its cause, and what the output is left with.
use Rattle.std.proofs.Common.{◌≡◌, ℕ, List, refl, ap}
use Rattle.std.specs.Prelude.{Result, IfErr}
use Rattle.std.specs.Result.{IsErr, IsErrAnd}
use Rattle.std.proofs.lemmas.Result.{err_from_is_err_and}
use Rattle.theory_syntax.specs.Process.{Script}
use Rattle.theory_syntax.specs.Readings.{reading}
use Rattle.program.specs.Unread.{IfLacks}
use Rattle.program.specs.declared.files.Unread.{Unread}
use Rattle.program.specs.declared.files.Unread.TheVariants as unread
use Rattle.program.specs.Given.{Given, Sent}
use Rattle.program.specs.Reading.{IsRefusalOf}
use Rattle.program.specs.Refusal.{of_file}
use Rattle.program.specs.Running.{IsCause, IsScriptOfFile}
use Rattle.program.specs.declared.refusal.Refusal.{Refusal}
use Rattle.program.specs.declared.refusal.Refusal.TheVariants as refusal
use Rattle.told_refusals.specs.Refusals.{TellsUnread}
use Rattle.told_refusals.specs.Refusals as refusals
use Rattle.graph_program.specs.Asking.{Request}
use Rattle.graph_program.specs.Giving.{IsCutOff, IsUnprinted}
use Rattle.graph_program.specs.Running.{IsSoOfFile, IsStopCause, Leaves, TellsStop}
use Rattle.graph_program.specs.Running as running
use Rattle.graph_program.specs.Stops.{IsStopIn}
use Rattle.graph_program.specs.declared.stop.Stop.{Stop}
use Rattle.graph_program.specs.declared.stop.Stop.TheVariants as stop

-- ---- of a script

-- where there is no text, nothing of it went out
pub not_printed : (request : Request) (script : Script) (why : Stop) (out : Sent) → IsStopIn request script why → out.Unchanged → IsUnprinted request script why out
not_printed request script stop.NoAssertion out is same = (is, same)
not_printed request script stop.NoSpecification out is same = (is, same)
not_printed request script (stop.NoGraph why) out is same = (is, same)
not_printed request script (stop.Refused (refusal.File f)) out is same = (is, same)
not_printed request script (stop.Refused (refusal.Text f p)) out is same = (is, same)
not_printed request script (stop.Refused (refusal.Grammar f p)) out is same = (is, same)
not_printed request script (stop.Refused (refusal.Kinds f p)) out is same = (is, same)
not_printed request script (stop.Refused refusal.Memory) out is same = (is, same)
not_printed request script (stop.Refused refusal.Thread) out is same = (is, same)
not_printed request script (stop.Refused refusal.Output) out is same = absurd is

-- what stops it is handed on
pub handed : {T : Type 0} (r : Result T Stop) {why : Stop} (P : Stop → Type 0) → IsErr r × IsErrAnd r (λ e. e ≡ why) → P why → IfErr r P
handed r P same said = let p = err_from_is_err_and r same.1 in rw (p.1, p.2) said

-- ---- of a file

module _ (given : Given) (request : Request) (script : Script) (file : IsScriptOfFile given.may_hold request.name script) where
  pub so_of_file : (IsSo : Script → Type 0) → IsSo (reading request.names script) → IsSoOfFile given request IsSo
  so_of_file IsSo so = record { script = script; of_file = file; is_so = so }

  -- what stops the graph of the file's script stops that of the file
  pub stop_cause : (why : Stop) (out : Sent) → IsUnprinted request (reading request.names script) why out → IsStopCause given request why
  stop_cause stop.NoAssertion out is = so_of_file (λ s. IsStopIn request s stop.NoAssertion) is.0
  stop_cause stop.NoSpecification out is = so_of_file (λ s. IsStopIn request s stop.NoSpecification) is.0
  stop_cause (stop.NoGraph why) out is = so_of_file (λ s. IsStopIn request s (stop.NoGraph why)) is.0
  stop_cause (stop.Refused (refusal.File f)) out is = absurd is.0
  stop_cause (stop.Refused (refusal.Text f p)) out is = absurd is.0
  stop_cause (stop.Refused (refusal.Grammar f p)) out is = absurd is.0
  stop_cause (stop.Refused (refusal.Kinds f p)) out is = absurd is.0
  stop_cause (stop.Refused refusal.Memory) out is = tt
  stop_cause (stop.Refused refusal.Thread) out is = absurd is.0
  stop_cause (stop.Refused refusal.Output) out is = (script, file)

  pub stop_leaves : (why : Stop) (out : Sent) → IsUnprinted request (reading request.names script) why out → Leaves given request why out
  stop_leaves stop.NoAssertion out is = is.1
  stop_leaves stop.NoSpecification out is = is.1
  stop_leaves (stop.NoGraph why) out is = is.1
  stop_leaves (stop.Refused (refusal.File f)) out is = is.1
  stop_leaves (stop.Refused (refusal.Text f p)) out is = is.1
  stop_leaves (stop.Refused (refusal.Grammar f p)) out is = is.1
  stop_leaves (stop.Refused (refusal.Kinds f p)) out is = is.1
  stop_leaves (stop.Refused refusal.Memory) out is = is.1
  stop_leaves (stop.Refused refusal.Thread) out is = is.1
  stop_leaves (stop.Refused refusal.Output) out is = so_of_file (λ s. IsCutOff request s out) is

-- ---- before there is a script

-- a text that is refused leaves the output as it was
pub untouched : (given : Given) (request : Request) (bytes : List ℕ) (why : Refusal) (out : Sent) → out.Unchanged → IsRefusalOf bytes why → Leaves given request (stop.Refused why) out
untouched given request bytes (refusal.File f) out same is = absurd is
untouched given request bytes (refusal.Text f p) out same is = same
untouched given request bytes (refusal.Grammar f p) out same is = same
untouched given request bytes (refusal.Kinds f p) out same is = same
untouched given request bytes refusal.Memory out same is = same
untouched given request bytes refusal.Thread out same is = absurd is
untouched given request bytes refusal.Output out same is = absurd is

-- a file that is not read has its cause
pub unread_cause : (given : Given) (name : List ℕ) (fault : Unread) → IfLacks (given.may_lack name) fault → IsCause given name (of_file fault)
unread_cause given name (unread.File why) lacks = lacks
unread_cause given name unread.Memory lacks = tt

-- and it leaves the output as it was
pub unread_leaves : (given : Given) (request : Request) (fault : Unread) (out : Sent) → out.Unchanged → Leaves given request (stop.Refused (of_file fault)) out
unread_leaves given request (unread.File why) out same = same
unread_leaves given request unread.Memory out same = same

-- and is told by its line, or by its name
pub unread_told : (given : Given) (name : List ℕ) (fault : Unread) (err : Sent) → TellsUnread name fault err → TellsStop given name (stop.Refused (of_file fault)) err
unread_told given name fault err (refusals.by_line line) = running.by_line line
unread_told given name fault err (refusals.by_name why is line) = running.of_name why (ap (λ f. stop.Refused (of_file f)) is) line
