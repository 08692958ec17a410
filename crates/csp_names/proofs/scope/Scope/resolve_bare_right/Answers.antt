use Rattle.std.proofs.Common.{◌≡◌, ◌∙◌, ◌∷◌, [], false, true, ap, refl, sym}
use Rattle.theory_checking.specs.Resolving.{as_channel}
use Rattle.theory_checking.specs.Sites.{AsBareRight, Used}
use Rattle.csp_parse.specs.Names.{name_of}
use Rattle.csp_names.specs.declared.refusals.KindFault.TheVariants as fault
use Rattle.csp_names.specs.Walks.{ResolvesBareRight}
use Rattle.csp_names.proofs.ChannelNames.{stops_at}
use Rattle.csp_names.proofs.Pairs.{right_agrees, right_disagrees, right_unlike}
use Rattle.csp_names.proofs.Walking.{handed_on}
use Rattle.csp_names.proofs.scope.Scope.resolve_bare_right.Goals as goal

pub returns-in_err-channel : goal.returns-in_err-channel
returns-in_err-channel g c =
    let other = name_of c.args.other in
    handed_on (ResolvesBareRight c.args.self.now c.args.bound.now c.args.left other (name_of c.args.name)) c.from_residual.result c.in_err-channel.field-0.0 c.from_residual.ensures
    (λ env stands knows left_is. c.in_err-channel.ensures env stands (AsBareRight other) refl)

pub returns-then-not-agree_in_fields : goal.returns-then-not-agree_in_fields
returns-then-not-agree_in_fields g c env stands knows left_is =
    let n = name_of c.args.name in
    let other = name_of c.args.other in
    let is = c.in_ok-channel.ensures env stands in
    let counted = c.agree_in_fields.ensures env stands knows in
    stops_at (Used env (AsBareRight other) n ∷ []) c.at.result fault.WrongCount c.args.name.place c.at.ensures (right_disagrees env n other c.in_ok-channel.channel.0 is c.agree_in_fields.result counted c.if-not-agree_in_fields.true)

pub returns-then-have_other_sets : goal.returns-then-have_other_sets
returns-then-have_other_sets g c env stands knows left_is =
    let n = name_of c.args.name in
    let other = name_of c.args.other in
    let is = c.in_ok-channel.ensures env stands in
    let counted = c.agree_in_fields.ensures env stands knows in
    stops_at (Used env (AsBareRight other) n ∷ []) c.at-then-have_other_sets.result fault.WrongKind c.args.name.place c.at-then-have_other_sets.ensures
    (right_unlike env n other c.in_ok-channel.channel.0 is c.agree_in_fields.result counted c.args.self.now knows c.args.left.0 left_is (c.have_other_sets.ensures.0 c.if-have_other_sets.true))

pub returns-else-have_other_sets : goal.returns-else-have_other_sets
returns-else-have_other_sets g c env stands knows left_is =
    let n = name_of c.args.name in
    let other = name_of c.args.other in
    let is = c.in_ok-channel.ensures env stands in
    let counted = c.agree_in_fields.ensures env stands knows in (
      (
        right_agrees env n other c.in_ok-channel.channel.0 is c.agree_in_fields.result counted c.args.self.now knows c.args.left.0 left_is c.if-not-agree_in_fields.false
            (λ h. let both : false ≡ true = sym c.if-have_other_sets.false ∙ c.have_other_sets.ensures.1 h in cc both),
        tt,
      ),
      ap as_channel is,
    )
