-- Putting no value in copies.
use Rattle.std.proofs.Common.{◌≡◌, IfOk, subst}
use Rattle.theory_syntax.specs.Process as pure
use Rattle.csp_events.specs.Events.{event_expression_of}
use Rattle.theory_semantics.proofs.Putting.{put_nothing_in_event}
use Rattle.csp_events.proofs.event_expression.EventExpression.try_copy.Goals as goal

pub returns : goal.returns
returns g c =
    let P : pure.EventExpression → Type 0 = λ e. IfOk c.put_in.result (λ copy. event_expression_of copy ≡ e) in
    subst P (put_nothing_in_event (event_expression_of c.args.self.now)) c.put_in.ensures
