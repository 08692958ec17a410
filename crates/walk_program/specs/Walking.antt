-- A walk through the side that is asked for, by the lines of an input, and what of it goes out.
use Rattle.std.specs.Prelude.{◌≡◌, ◌<◌, ◌⊎◌, ◌++◌, ℕ, Bool, true, false, List, length, Option, Some, None}
use Rattle.std.specs.Io.KnownBytes.{Consumes, IsAtEnd}
use Rattle.theory_syntax.specs.Process.{Process, Script}
use Rattle.theory_notation.specs.Names.{Names}
use Rattle.theory_explanation.specs.Cutting.{Width}
use Rattle.theory_walk.specs.Walks.{IsGiven, IsWalk, Place, answer_to}
use Rattle.report.specs.Sending.{Sends, Breaks}
use Rattle.program.specs.Given.{Sent}
use Rattle.program.specs.declared.refusal.Refusal.TheVariants as refusal
use Rattle.walk_program.specs.Asking.{IsStart, Request}
use Rattle.walk_program.specs.Lines.{Left, commands_of}
use Rattle.walk_program.specs.Stops.{LacksSide}
use Rattle.walk_program.specs.declared.stop.Stop.{Stop}
use Rattle.walk_program.specs.declared.stop.Stop.TheVariants as stop

-- The text of a walk from the side that is asked for, by the commands of these bytes. The place where it goes on is told, if
-- it does.
pub record IsWalkText (request : Request) (script : Script) (names : Names) (bytes text : List ℕ) (next : Option Place) : Type 0 where
  pub start : Process
  pub asked : IsStart request script start
  pub walk : IsWalk script names request.width start (commands_of bytes) text next

-- It went out, whole, by what was read of the input; and it has ended, or nothing is left of the input.
pub record IsWalked (request : Request) (script : Script) (names : Names) (input : Left) (out : Sent) : Type 0 where
  pub bytes : List ℕ
  pub text : List ℕ
  pub next : Option Place
  pub is_walk : IsWalkText request script names bytes text next
  pub read : Consumes input.old input.new bytes
  pub to_the_end : (next ≡ None) ⊎ IsAtEnd input.new
  pub sent : Sends out.old out.new out.failed text

-- So much went out of the text of such a walk, by a beginning of what was read.
pub record IsBegun (request : Request) (script : Script) (names : Names) (input : Left) (WentOut : List ℕ → Type 0) : Type 0 where
  pub bytes : List ℕ
  pub unused : List ℕ
  pub text : List ℕ
  pub next : Option Place
  pub is_walk : IsWalkText request script names bytes text next
  pub read : Consumes input.old input.new (bytes ++ unused)
  pub sent : WentOut text

-- Why it did not come to its end, and what went out till then: nothing where there is no such side; where memory was
-- refused, nothing or the walk so far, and this where the input failed; and where the output did, a beginning of that.
abbrev pub IsUnwalked : Request → Script → Names → Left → Stop → Sent → Type 0
IsUnwalked request script names input stop.NoAssertion out = (length script.assertions < request.number) × out.Unchanged
IsUnwalked request script names input stop.NoSpecification out = LacksSide request script × out.Unchanged
IsUnwalked request script names input stop.Input out = IsBegun request script names input (Sends out.old out.new out.failed)
IsUnwalked request script names input (stop.Refused refusal.Memory) out = out.Unchanged ⊎ IsBegun request script names input (Sends out.old out.new out.failed)
IsUnwalked request script names input (stop.Refused refusal.Output) out = IsBegun request script names input (Breaks out.old out.new out.failed)
IsUnwalked request script names input (stop.Refused _) out = ⊥

-- ---- one command

-- So much went out of what a command gives at a place. Behind it the walk is at the next one, if it goes on.
pub record IsAnswered (script : Script) (names : Names) (width : Width) (p : Place) (command : List ℕ) (next : Option Place) (WentOut : List ℕ → Type 0) : Type 0 where
  pub text : List ℕ
  pub given : IsGiven script names width p (answer_to names p command) text next
  pub sent : WentOut text

-- the place, if the walk goes on
abbrev pub next_at : Bool → Place → Option Place
next_at true p = Some p
next_at false p = None
