-- What stops a walk, with its cause, and what the output is left with.
use Rattle.std.proofs.Common.{◌≡◌, ℕ, List, ap, inl, inr}
use Rattle.std.specs.Prelude.{◌⊎◌, Result, IfErr}
use Rattle.std.specs.Result.{IsErr, IsErrAnd}
use Rattle.std.proofs.lemmas.Result.{err_from_is_err_and}
use Rattle.theory_syntax.specs.Process.{Script}
use Rattle.theory_syntax.specs.Readings.{reading}
use Rattle.theory_notation.specs.Names.{Names}
use Rattle.program.specs.Unread.{IfLacks}
use Rattle.program.specs.declared.files.Unread.{Unread}
use Rattle.program.specs.declared.files.Unread.TheVariants as unread
use Rattle.program.specs.Given.{Given, Sent}
use Rattle.program.specs.Reading.{IsRefusalOf}
use Rattle.program.specs.Refusal.{of_file}
use Rattle.program.specs.Running.{IsCause}
use Rattle.program.specs.declared.refusal.Refusal.{Refusal}
use Rattle.program.specs.declared.refusal.Refusal.TheVariants as refusal
use Rattle.report.specs.Sending.{Sends, Breaks}
use Rattle.told_refusals.specs.Refusals.{TellsUnread}
use Rattle.told_refusals.specs.Refusals as refusals
use Rattle.walk_program.specs.Asking.{Request}
use Rattle.walk_program.specs.Lines.{Left}
use Rattle.named_scripts.specs.Naming.{IsNamedFile, Labels}
use Rattle.walk_program.specs.Running.{IsLeft, IsSoOfFile, IsStopCause, Leaves, TellsStop}
use Rattle.walk_program.specs.Running as running
use Rattle.walk_program.specs.Walking.{IsBegun, IsUnwalked}
use Rattle.walk_program.specs.declared.stop.Stop.{Stop}
use Rattle.walk_program.specs.declared.stop.Stop.TheVariants as stop
use Rattle.named_scripts.proofs.Beginnings.{script_of_file}

-- what stops it is handed on
pub handed : {T : Type 0} (r : Result T Stop) {why : Stop} (P : Stop → Type 0) → IsErr r × IsErrAnd r (λ e. e ≡ why) → P why → IfErr r P
handed r P same said = let p = err_from_is_err_and r same.1 in rw (p.1, p.2) said

-- ---- of a file

module _ (given : Given) (request : Request) (script : Script) (labels : Labels) (file : IsNamedFile given.may_hold request.name script labels) where
  pub so_of_file : (IsSo : Script → Names → Type 0) → IsSo (reading request.names script) labels.names → IsSoOfFile given request IsSo
  so_of_file IsSo so = record { script = script; labels = labels; of_file = file; is_so = so }

  begun : (input : Left) (P : List ℕ → Type 0) → IsBegun request (reading request.names script) labels.names input P → IsLeft given request input P
  begun input P is = so_of_file (λ s ns. IsBegun request s ns input P) is

  begun_or_not : (input : Left) (Same : Type 0) (P : List ℕ → Type 0) → Same ⊎ IsBegun request (reading request.names script) labels.names input P → Same ⊎ IsLeft given request input P
  begun_or_not input Same P (inl same) = inl same
  begun_or_not input Same P (inr is) = inr (begun input P is)

  -- what stops the walk through the file's script stops that of the file
  pub stop_cause : (why : Stop) (input : Left) (out : Sent) → IsUnwalked request (reading request.names script) labels.names input why out → IsStopCause given request why
  stop_cause stop.NoAssertion input out is = so_of_file _ is.0
  stop_cause stop.NoSpecification input out is = so_of_file _ is.0
  stop_cause stop.Input input out is = tt
  stop_cause (stop.Refused (refusal.File f)) input out is = absurd is
  stop_cause (stop.Refused (refusal.Text f p)) input out is = absurd is
  stop_cause (stop.Refused (refusal.Grammar f p)) input out is = absurd is
  stop_cause (stop.Refused (refusal.Kinds f p)) input out is = absurd is
  stop_cause (stop.Refused refusal.Memory) input out is = tt
  stop_cause (stop.Refused refusal.Thread) input out is = absurd is
  stop_cause (stop.Refused refusal.Output) input out is = (script, script_of_file given.may_hold request.name script labels file)

  pub stop_leaves : (why : Stop) (input : Left) (out : Sent) → IsUnwalked request (reading request.names script) labels.names input why out → Leaves given request input why out
  stop_leaves stop.NoAssertion input out is = is.1
  stop_leaves stop.NoSpecification input out is = is.1
  stop_leaves stop.Input input out is = begun input (Sends out.old out.new out.failed) is
  stop_leaves (stop.Refused (refusal.File f)) input out is = absurd is
  stop_leaves (stop.Refused (refusal.Text f p)) input out is = absurd is
  stop_leaves (stop.Refused (refusal.Grammar f p)) input out is = absurd is
  stop_leaves (stop.Refused (refusal.Kinds f p)) input out is = absurd is
  stop_leaves (stop.Refused refusal.Memory) input out is = begun_or_not input out.Unchanged (Sends out.old out.new out.failed) is
  stop_leaves (stop.Refused refusal.Thread) input out is = absurd is
  stop_leaves (stop.Refused refusal.Output) input out is = begun input (Breaks out.old out.new out.failed) is

-- ---- before there is a script

-- a text that is refused leaves the output as it was
pub untouched : (given : Given) (request : Request) (input : Left) (bytes : List ℕ) (why : Refusal) (out : Sent) → out.Unchanged → IsRefusalOf bytes why → Leaves given request input (stop.Refused why) out
untouched given request input bytes (refusal.File f) out same is = absurd is
untouched given request input bytes (refusal.Text f p) out same is = same
untouched given request input bytes (refusal.Grammar f p) out same is = same
untouched given request input bytes (refusal.Kinds f p) out same is = same
untouched given request input bytes refusal.Memory out same is = inl same
untouched given request input bytes refusal.Thread out same is = absurd is
untouched given request input bytes refusal.Output out same is = absurd is

-- a file that is not read has its cause
pub unread_cause : (given : Given) (name : List ℕ) (fault : Unread) → IfLacks (given.may_lack name) fault → IsCause given name (of_file fault)
unread_cause given name (unread.File why) lacks = lacks
unread_cause given name unread.Memory lacks = tt

-- and it leaves the output as it was
pub unread_leaves : (given : Given) (request : Request) (input : Left) (fault : Unread) (out : Sent) → out.Unchanged → Leaves given request input (stop.Refused (of_file fault)) out
unread_leaves given request input (unread.File why) out same = same
unread_leaves given request input unread.Memory out same = inl same

-- and is told by its line, or by its name
pub unread_told : (given : Given) (name : List ℕ) (fault : Unread) (err : Sent) → TellsUnread name fault err → TellsStop given name (stop.Refused (of_file fault)) err
unread_told given name fault err (refusals.by_line line) = running.by_line line
unread_told given name fault err (refusals.by_name why is line) = running.of_name why (ap (λ f. stop.Refused (of_file f)) is) line
