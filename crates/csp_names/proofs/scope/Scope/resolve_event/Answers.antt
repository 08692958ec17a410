use Rattle.std.proofs.Common.{◌≡◌, ◌∙◌, Err, Ok}
use Rattle.theory_checking.specs.Resolving.{number_of}
use Rattle.theory_checking.specs.Sites.{AsEvent}
use Rattle.csp_parse.specs.Events.{event_of}
use Rattle.csp_parse.specs.Expressions.{expressions_of}
use Rattle.csp_parse.specs.Names.{name_of}
use Rattle.csp_names.specs.Walks.{ResolvesEvent}
use Rattle.csp_names.proofs.Events.{channel_stops, event_made, fields_as_read, fields_stop}
use Rattle.csp_names.proofs.Resolves.{number_of_list}
use Rattle.csp_names.proofs.Walking.{handed_on}
use Rattle.csp_names.proofs.scope.Scope.resolve_event.Goals as goal

pub returns-in_err-channel : goal.returns-in_err-channel
returns-in_err-channel g c =
    let es = c.args.event.now.fields.items in
    let counted : c.len.result ≡ number_of (expressions_of es) = c.len.ensures ∙ c.args.event.now.fields.ok.0 ∙ number_of_list es in
    handed_on (ResolvesEvent c.args.self.now c.args.bound.now (event_of c.args.event.now)) c.from_residual.result c.in_err-channel.field-0.0 c.from_residual.ensures
    (channel_stops c.args.self.now c.args.bound.now AsEvent (name_of c.args.event.now.channel) (expressions_of es) c.len.result counted c.in_err-channel.field-0.0 c.in_err-channel.ensures)

pub returns-in_err-fields : goal.returns-in_err-fields
returns-in_err-fields g c =
    let es = c.args.event.now.fields.items in
    let counted : c.len.result ≡ number_of (expressions_of es) = c.len.ensures ∙ c.args.event.now.fields.ok.0 ∙ number_of_list es in
    handed_on (ResolvesEvent c.args.self.now c.args.bound.now (event_of c.args.event.now)) c.from_residual-in_err-fields.result c.in_err-fields.field-0.0 c.from_residual-in_err-fields.ensures
    (fields_stop c.args.self.now c.args.bound.now AsEvent (name_of c.args.event.now.channel) (expressions_of es) c.len.result counted c.in_ok-channel.channel c.in_err-fields.field-0.0 c.in_ok-channel.ensures
    (fields_as_read c.args.self.now c.args.bound.now c.deref.result.now es (Err c.in_err-fields.field-0.0) c.deref.ensures.value c.in_err-fields.ensures))

pub returns : goal.returns
returns g c =
    let es = c.args.event.now.fields.items in
    let counted : c.len.result ≡ number_of (expressions_of es) = c.len.ensures ∙ c.args.event.now.fields.ok.0 ∙ number_of_list es in
    event_made c.args.self.now c.args.bound.now AsEvent (name_of c.args.event.now.channel) (expressions_of es) c.len.result counted c.in_ok-channel.channel c.in_ok-fields.fields c.in_ok-channel.ensures
    (fields_as_read c.args.self.now c.args.bound.now c.deref.result.now es (Ok c.in_ok-fields.fields) c.deref.ensures.value c.in_ok-fields.ensures)
