use Rattle.std.proofs.Common.{◌∷◌, [], ap, refl, sym}
use Rattle.theory_checking.specs.Resolving.{as_channel}
use Rattle.theory_checking.specs.Sites.{AsEvent, Used}
use Rattle.csp_parse.specs.Names.{name_of}
use Rattle.csp_names.specs.declared.refusals.KindFault.TheVariants as fault
use Rattle.csp_names.specs.Walks.{ResolvesChannel}
use Rattle.csp_names.proofs.ChannelNames.{event_agrees, event_disagrees, fields_counted, stops_at}
use Rattle.csp_names.proofs.Walking.{handed_on}
use Rattle.csp_names.proofs.scope.Scope.resolve_channel.Goals as goal

pub returns-in_err-channel : goal.returns-in_err-channel
returns-in_err-channel g c =
    handed_on (ResolvesChannel c.args.self.now c.args.bound.now (AsEvent c.args.fields) (name_of c.args.name)) c.from_residual.result c.in_err-channel.field-0.0 c.from_residual.ensures (λ env stands knows. c.in_err-channel.ensures env stands (AsEvent c.args.fields) refl)

pub returns-then-counts_agree : goal.returns-then-counts_agree
returns-then-counts_agree g c env stands knows =
    let n = name_of c.args.name in
    let is = c.in_ok-channel.ensures env stands in
    let counted = fields_counted c.args.self.now env knows n c.in_ok-channel.channel.0 c.field_count.result is c.field_count.ensures in
    ((event_agrees env n c.args.fields c.in_ok-channel.channel.0 is c.field_count.result counted (sym c.if-counts_agree.ensures), tt), ap as_channel is)

pub returns-else-counts_agree : goal.returns-else-counts_agree
returns-else-counts_agree g c env stands knows =
    let n = name_of c.args.name in
    let is = c.in_ok-channel.ensures env stands in
    let counted = fields_counted c.args.self.now env knows n c.in_ok-channel.channel.0 c.field_count.result is c.field_count.ensures in
    stops_at (Used env (AsEvent c.args.fields) n ∷ []) c.at.result fault.WrongCount c.args.name.place c.at.ensures (event_disagrees env n c.args.fields c.in_ok-channel.channel.0 is c.field_count.result counted (sym c.if-counts_agree.ensures))
