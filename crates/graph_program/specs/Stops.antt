-- What stops a request, and how it is told.
use Rattle.std.specs.Prelude.{◌≡◌, ◌<◌, ◌++◌, ⊤, ℕ, true, List, [], ◌∷◌, None, codes, length}
use Rattle.std.specs.List.{concat}
use Rattle.theory_syntax.specs.Process.{Process, specification_of, Assertion, Script}
use Rattle.theory_semantics.specs.Meaning.Evaluation.{Cause}
use Rattle.theory_semantics.specs.Meaning.Causes.{cause_word}
use Rattle.csp_expression.specs.Fault.{cause_of}
use Rattle.state_graph.specs.Stops.{IsStopFor}
use Rattle.state_graph.specs.declared.stop.Stop as graph
use Rattle.state_graph.specs.declared.stop.Stop.TheVariants as no_graph
use Rattle.program.specs.Refusal.{refusal_line}
use Rattle.program.specs.declared.refusal.Refusal.TheVariants as refusal
use Rattle.graph_program.specs.Asking.{IsAsked, IsStart, Request}
use Rattle.graph_program.specs.declared.stop.Stop.{Stop}
use Rattle.graph_program.specs.declared.stop.Stop.TheVariants as stop

-- ---- lines

-- that of a state that has no meaning, for this cause
abbrev pub fault_line : Cause → List ℕ
fault_line cause = concat (codes "refused fault " ∷ cause_word cause ∷ codes "\n" ∷ [])

-- that of a term that has no graph
abbrev pub no_graph_line : graph.Stop → List ℕ
no_graph_line no_graph.States = codes "refused states\n"
no_graph_line (no_graph.Fault fault) = fault_line (cause_of fault)
no_graph_line no_graph.Term = codes "refused term\n"
no_graph_line no_graph.Memory = refusal_line refusal.Memory

abbrev pub stop_line : Stop → List ℕ
stop_line (stop.Refused why) = refusal_line why
stop_line stop.NoAssertion = codes "refused assertion\n"
stop_line stop.NoSpecification = codes "refused specification\n"
stop_line (stop.NoGraph why) = no_graph_line why

-- ---- causes

-- the specification of an assertion is asked for that has none
pub record LacksSide (request : Request) (script : Script) : Type 0 where
  pub assertion : Assertion
  pub asked : IsAsked request script assertion
  pub of_specification : request.specification ≡ true
  pub none : specification_of assertion.property ≡ None

-- The side that is asked for has no graph of so few states, for this reason: it reaches more, or one that is stuck.
pub record LacksGraph (request : Request) (script : Script) (why : graph.Stop) : Type 0 where
  pub start : Process
  pub asked : IsStart request script start
  pub reason : IsStopFor script start request.most why

-- Why there is no text of a graph of the script. Refused memory says nothing of it.
abbrev pub IsStopIn : Request → Script → Stop → Type 0
IsStopIn request script stop.NoAssertion = length script.assertions < request.number
IsStopIn request script stop.NoSpecification = LacksSide request script
IsStopIn request script (stop.NoGraph why) = LacksGraph request script why
IsStopIn request script (stop.Refused refusal.Memory) = ⊤
IsStopIn request script (stop.Refused _) = ⊥
