-- What an assertion asks, form by form.
use Rattle.std.proofs.Common.{ap, sym, ◌∙◌}
use Rattle.theory_syntax.specs.Models.{model_of}
use Rattle.theory_text.specs.Raw.{RawRefinementOf}
use Rattle.csp_parse.specs.Declarations.{property_of}
use Rattle.csp_parse.specs.Processes.{process_of}
use Rattle.csp_names.specs.Walks.{ResolvesProperty}
use Rattle.csp_names.proofs.DefinitionForms.{deadlock_resolved, divergence_resolved, refinement_resolved, refinement_stops}
use Rattle.csp_names.proofs.Walking.{handed_on}
use Rattle.csp_names.proofs.scope.Scope.resolve_property.Goals as goal

pub returns-in_err-specification-in-Refinement : goal.returns-in_err-specification-in-Refinement
returns-in_err-specification-in-Refinement g c =
    let a = property_of c.args.property.now in
    let m = model_of c.in-Refinement.model in
    let p = process_of c.deref.result.now in
    let mid = c.resolve_process.new.bound in
    let f = c.in_err-specification-in-Refinement.field-0.0 in
    handed_on (ResolvesProperty c.args.self.now c.args.bound.now mid a) c.from_residual.result f c.from_residual.ensures
    (refinement_stops c.args.self.now c.args.bound.now mid m p a f (ap property_of c.in-Refinement.is ∙ ap (λ x. RawRefinementOf m (process_of x)) (sym c.deref.ensures)) c.in_err-specification-in-Refinement.ensures)

pub returns-in_ok-specification-in-Refinement : goal.returns-in_ok-specification-in-Refinement
returns-in_ok-specification-in-Refinement g c =
    let a = property_of c.args.property.now in
    let m = model_of c.in-Refinement.model in
    let p = process_of c.deref.result.now in
    refinement_resolved c.args.self.now c.args.bound.now c.resolve_process.new.bound m p c.in_ok-specification-in-Refinement.specification a
    (ap property_of c.in-Refinement.is ∙ ap (λ x. RawRefinementOf m (process_of x)) (sym c.deref.ensures)) c.in_ok-specification-in-Refinement.ensures

pub returns-in-DeadlockFree : goal.returns-in-DeadlockFree
returns-in-DeadlockFree g c = deadlock_resolved c.args.self.now c.args.bound.now (property_of c.args.property.now) (ap property_of c.in-DeadlockFree.is)

pub returns-in-DivergenceFree : goal.returns-in-DivergenceFree
returns-in-DivergenceFree g c = divergence_resolved c.args.self.now c.args.bound.now (property_of c.args.property.now) (ap property_of c.in-DivergenceFree.is)
