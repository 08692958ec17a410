-- What stops a run, and how it is told.
use Rattle.std.specs.Prelude.{◌≡◌, ⊤, ℕ, true, List, None, codes}
use Rattle.theory_syntax.specs.Process.{specification_of, Assertion, Script}
use Rattle.program.specs.Given.{Sent}
use Rattle.program.specs.Refusal.{refusal_line}
use Rattle.program.specs.declared.refusal.Refusal.TheVariants as refusal
use Rattle.report.specs.Sending.{Breaks}
use Rattle.walk_program.specs.Asking.{IsAsked, Request}
use Rattle.walk_program.specs.declared.stop.Stop.{Stop}
use Rattle.walk_program.specs.declared.stop.Stop.TheVariants as stop

abbrev pub stop_line : Stop → List ℕ
stop_line (stop.Refused why) = refusal_line why
stop_line stop.NoAssertion = codes "refused assertion\n"
stop_line stop.NoSpecification = codes "refused specification\n"
stop_line stop.Input = codes "refused input\n"

-- the specification of an assertion is asked for that has none
pub record LacksSide (request : Request) (script : Script) : Type 0 where
  pub assertion : Assertion
  pub asked : IsAsked request script assertion
  pub of_specification : request.specification ≡ true
  pub none : specification_of assertion.property ≡ None

-- the reading of a line stops by this
abbrev pub StopsReading : Stop → Type 0
StopsReading stop.Input = ⊤
StopsReading (stop.Refused refusal.Memory) = ⊤
StopsReading _ = ⊥

-- Where memory was refused nothing of a text went out, and where the output failed a beginning did.
abbrev pub LeavesText : Stop → ((List ℕ → Type 0) → Type 0) → Sent → Type 0
LeavesText (stop.Refused refusal.Memory) Told out = out.Unchanged
LeavesText (stop.Refused refusal.Output) Told out = Told (Breaks out.old out.new out.failed)
LeavesText _ Told out = ⊥
