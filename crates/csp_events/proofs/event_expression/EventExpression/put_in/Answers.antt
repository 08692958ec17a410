-- The fields with the values put in make up the event.
use Rattle.csp_expression.specs.Bindings.{bindings_of}
use Rattle.csp_events.proofs.EventPutting.{put_fields_of}
use Rattle.csp_events.proofs.event_expression.EventExpression.put_in.Goals as goal

pub returns : goal.returns
returns g c = put_fields_of (bindings_of c.args.bindings.now) c.args.self.now.channel c.args.self.now.fields c.in_ok-fields.fields c.deref.result.now c.deref.ensures.value c.in_ok-fields.ensures
