use Rattle.std.proofs.Common.{◌∷◌, [], ap, refl}
use Rattle.theory_checking.specs.Resolving.{as_channel}
use Rattle.theory_checking.specs.Sites.{AsBareLeft, Used}
use Rattle.csp_parse.specs.Names.{name_of}
use Rattle.csp_names.specs.declared.refusals.KindFault.TheVariants as fault
use Rattle.csp_names.specs.Walks.{ResolvesChannel}
use Rattle.csp_names.proofs.ChannelNames.{stops_at}
use Rattle.csp_names.proofs.Pairs.{left_agrees, left_disagrees}
use Rattle.csp_names.proofs.Walking.{handed_on}
use Rattle.csp_names.proofs.scope.Scope.resolve_bare_left.Goals as goal

pub returns-in_err-channel : goal.returns-in_err-channel
returns-in_err-channel g c =
    let other = name_of c.args.other in
    handed_on (ResolvesChannel c.args.self.now c.args.bound.now (AsBareLeft other) (name_of c.args.name)) c.from_residual.result c.in_err-channel.field-0.0 c.from_residual.ensures
    (λ env stands knows. c.in_err-channel.ensures env stands (AsBareLeft other) refl)

pub returns-then-agree_in_fields : goal.returns-then-agree_in_fields
returns-then-agree_in_fields g c env stands knows =
    let is = c.in_ok-channel.ensures env stands in
    let counted = c.agree_in_fields.ensures env stands knows in
    ((left_agrees env (name_of c.args.name) (name_of c.args.other) c.in_ok-channel.channel.0 is c.agree_in_fields.result counted c.if-agree_in_fields.true, tt), ap as_channel is)

pub returns-else-agree_in_fields : goal.returns-else-agree_in_fields
returns-else-agree_in_fields g c env stands knows =
    let n = name_of c.args.name in
    let other = name_of c.args.other in
    let is = c.in_ok-channel.ensures env stands in
    let counted = c.agree_in_fields.ensures env stands knows in
    stops_at (Used env (AsBareLeft other) n ∷ []) c.at.result fault.WrongCount c.args.name.place c.at.ensures (left_disagrees env n other c.in_ok-channel.channel.0 is c.agree_in_fields.result counted c.if-agree_in_fields.false)
