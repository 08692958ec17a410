-- One more step is the one, or is not.
use Rattle.std.proofs.Common.{◌≡◌, true, false, Some, refl, sym, ◌∙◌, ap, ap₂}
use Rattle.csp_term.specs.Term.{process_of}
use Rattle.csp_steps.specs.Answering.{answered_of}
use Rattle.csp_moves.specs.Way.{lent_action}
use Rattle.csp_moves.proofs.Looked.{none_at_all, none_before, none_so_far, one_there}
use Rattle.csp_moves.proofs.deciding.has_step.Goals as goal

pub loop-step-init : goal.loop-step-init
loop-step-init g c = none_before answered_of (lent_action c.args.action, Some (process_of c.args.target.now)) c.args.steps.now

pub returns-then-is_step : goal.returns-then-is_step
returns-then-is_step g c =
    let found = c.is_step.ensures.0 c.if-is_step.true in (
      λ told. one_there answered_of (lent_action c.args.action, Some (process_of c.args.target.now)) c.args.steps.now c.loop-step.step-index c.step-item.result c.loop-step-test.true c.step-item.is (ap₂ (λ x t. (x, t)) found.0 found.1),
      λ has. refl,
    )

pub loop-step-preserved : goal.loop-step-preserved
loop-step-preserved g c =
    none_so_far answered_of (lent_action c.args.action, Some (process_of c.args.target.now)) c.args.steps.now c.loop-step.step-index c.step-item.result c.loop-step-test.true c.step-item.is
    (λ same. let e : true ≡ false = sym (c.is_step.ensures.1 (ap (λ s. s.0) same, ap (λ s. s.1) same)) ∙ c.if-is_step.false in cc e) c.loop-step.invariant

pub returns : goal.returns
returns g c = (
  λ told. absurd (cc told),
  λ has. absurd (none_at_all answered_of (lent_action c.args.action, Some (process_of c.args.target.now)) c.args.steps.now c.loop-step.step-index c.loop-step-test.false c.loop-step.invariant has),
)
