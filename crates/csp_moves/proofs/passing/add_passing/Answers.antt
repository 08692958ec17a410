-- The event is added where it passes.
use Rattle.std.proofs.Common.{◌≡◌, true, false, map, sym, ◌∙◌}
use Rattle.csp_value.specs.Action.{event_of}
use Rattle.csp_term.specs.Term.{process_of}
use Rattle.csp_steps.specs.Answering.{answered_of}
use Rattle.csp_moves.specs.Passing.{IsPassing}
use Rattle.csp_moves.proofs.Events.{none_added, not_added, one_added}
use Rattle.csp_moves.proofs.passing.add_passing.Goals as goal

pub returns-in_default : goal.returns-in_default
returns-in_default g c =
    none_added (process_of c.args.target.now) (IsPassing c.args.passing.now) (answered_of c.args.step.now) (map event_of c.args.events.now.items) (λ e is passes. c.in_default.ensures e is)

pub returns-then-is_passing : goal.returns-then-is_passing
returns-then-is_passing g c =
    one_added (process_of c.args.target.now) (IsPassing c.args.passing.now) (answered_of c.args.step.now) (map event_of c.args.events.now.items) (event_of c.in-Some.event.now) (map event_of c.add_copy.new.events.items)
    c.in-Some.ensures (c.in_ok-is_passing.ensures.0 c.if-is_passing.true) c.in_ok-add_copy.ensures

pub returns : goal.returns
returns g c =
    not_added (process_of c.args.target.now) (IsPassing c.args.passing.now) (answered_of c.args.step.now) (map event_of c.args.events.now.items) (event_of c.in-Some.event.now)
    c.in-Some.ensures (λ passes. let h : true ≡ false = sym (c.in_ok-is_passing.ensures.1 passes) ∙ c.if-is_passing.false in cc h)
