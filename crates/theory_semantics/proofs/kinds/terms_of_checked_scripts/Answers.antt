use Rattle.std.proofs.Common.{Option, Some, None, IfSome}
use Rattle.theory_syntax.specs.Process.{Process, specification_of}
use Rattle.theory_semantics.specs.Kinds.Processes.{IsClosedTerm}
use Rattle.theory_semantics.specs.Kinds.Scripts.{IsWellKindedAssertion, IsTermOf}
use Rattle.theory_semantics.proofs.KindedSteps.{each_member, step_closed, run_closed}
use Rattle.theory_semantics.proofs.ClosedTerms.{no_misfit, reached_no_misfit}
use Rattle.theory_semantics.proofs.kinds.terms_of_checked_scripts.Goals as goal

pub returns-clause-sides : goal.returns-clause-sides
returns-clause-sides c = λ script a checked has.
    let h = each_member (IsWellKindedAssertion script checked.0) script.assertions a checked.1.assertions has in
    (there (specification_of a.property) (IsClosedTerm script checked.0) (IsTermOf script) (λ t k. (checked.0, checked.1, k)) h.specification, (checked.0, checked.1, h.implementation))
  where
    there : (o : Option Process) (P Q : Process → Type 0) → ((t : Process) → P t → Q t) → IfSome o P → IfSome o Q
    there None P Q more h = h
    there (Some t) P Q more h = more t h

pub returns-clause-step : goal.returns-clause-step
returns-clause-step c = λ script t x u h step. (h.0, h.1, step_closed script h.0 h.1.sets h.1.equations t x u step h.2)

pub returns-clause-run : goal.returns-clause-run
returns-clause-run c = λ script t path u h run. (h.0, h.1, run_closed script h.0 h.1.sets h.1.equations path t u run h.2)

pub returns-clause-no_misfit : goal.returns-clause-no_misfit
returns-clause-no_misfit c = λ script t h. no_misfit script h.0 h.1 t h.2

pub returns-clause-faults : goal.returns-clause-faults
returns-clause-faults c = λ script t h why some. reached_no_misfit script h.0 h.1 t why h.2 some
