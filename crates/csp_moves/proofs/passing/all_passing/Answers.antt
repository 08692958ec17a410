-- Each step in turn.
use Rattle.std.proofs.Common.{map, ap}
use Rattle.csp_value.specs.Action.{event_of}
use Rattle.csp_term.specs.Term.{process_of}
use Rattle.csp_steps.specs.Answering.{answered_of}
use Rattle.csp_moves.specs.Passing.{IsPassing}
use Rattle.csp_moves.proofs.Events.{all_taken, none_taken, one_taken}
use Rattle.csp_moves.proofs.passing.all_passing.Goals as goal

pub loop-step-init : goal.loop-step-init
loop-step-init g c =
    none_taken (process_of c.args.target.now) (IsPassing c.args.passing.now) answered_of c.args.steps.now (map event_of c.new-events.result.items) (ap (map event_of) c.new-events.ensures.items)

pub loop-step-preserved : goal.loop-step-preserved
loop-step-preserved g c =
    one_taken (process_of c.args.target.now) (IsPassing c.args.passing.now) answered_of c.args.steps.now (map event_of c.loop-step.events.items) c.loop-step.step-index c.step-item.result (map event_of c.add_passing.new.events.items)
    c.loop-step-test.true c.step-item.is c.loop-step.invariant c.in_ok-add_passing.ensures

pub returns : goal.returns
returns g c =
    all_taken (process_of c.args.target.now) (IsPassing c.args.passing.now) answered_of c.args.steps.now (map event_of c.loop-step.events.items) c.loop-step.step-index c.loop-step-test.false c.loop-step.invariant
