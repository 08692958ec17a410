-- Both channels have the same field sets, or that is the cause.
use Rattle.std.proofs.Common.{Result, Err, sym, ◌∙◌, ap, subst}
use Rattle.std.proofs.lemmas.Result.{err_from_is_err_and}
use Rattle.theory_semantics.specs.Meaning.Events.{channel_images, field_sets}
use Rattle.csp_events.specs.Channels.{declaring}
use Rattle.csp_expression.specs.declared.no_value.NoValue.{NoValue}
use Rattle.csp_value.specs.Fields.{sets_of}
use Rattle.csp_events.specs.Imaging.{MakesMore}
use Rattle.csp_events.proofs.Naming.{channels_differ, channels_named, no_first_sets, no_second_sets, stopped_at_sets}
use Rattle.csp_events.proofs.images.Images.add_channels.Goals as goal

pub returns-in_err-sets : goal.returns-in_err-sets
returns-in_err-sets g c types =
    let s = declaring types c.args.channels.now in
    let from = c.args.from.0 in
    let to = c.args.to.0 in
    let p = err_from_is_err_and c.from_residual.result c.from_residual.ensures.1 in
    let P : Result Unit NoValue → Type 0 = λ r. MakesMore c.args.self.now (channel_images s from to) r c.args.self.now in
    subst P (sym (p.1 ∙ ap Err p.2))
    (stopped_at_sets g.row.A.Denot c.args.self.now c.args.self.now (channel_images s from to) (field_sets s from) c.in_err-sets.field-0.0 (c.in_err-sets.ensures types) (λ cause none. no_first_sets s from to cause none))

pub returns-in_err-others : goal.returns-in_err-others
returns-in_err-others g c types =
    let s = declaring types c.args.channels.now in
    let from = c.args.from.0 in
    let to = c.args.to.0 in
    let p = err_from_is_err_and c.from_residual-in_err-others.result c.from_residual-in_err-others.ensures.1 in
    let P : Result Unit NoValue → Type 0 = λ r. MakesMore c.args.self.now (channel_images s from to) r c.args.self.now in
    subst P (sym (p.1 ∙ ap Err p.2))
    (stopped_at_sets g.row.A.Denot c.args.self.now c.args.self.now (channel_images s from to) (field_sets s to) c.in_err-others.field-0.0 (c.in_err-others.ensures types) (λ cause none. no_second_sets s from to cause (sets_of c.in_ok-sets.sets.now) (c.in_ok-sets.ensures types) none))

pub returns-then-not-same_sets : goal.returns-then-not-same_sets
returns-then-not-same_sets g c types =
    channels_differ (declaring types c.args.channels.now) c.args.from.0 c.args.to.0 (sets_of c.in_ok-sets.sets.now) (sets_of c.in_ok-others.others.now) (c.in_ok-sets.ensures types) (c.in_ok-others.ensures types) (sym c.same_sets.ensures ∙ c.if-not-same_sets.true)

pub returns : goal.returns
returns g c types =
    channels_named g.row.A.Denot (declaring types c.args.channels.now) c.args.self.now c.args.from c.args.to (sets_of c.in_ok-sets.sets.now) (sets_of c.in_ok-others.others.now) c.push.new.self (c.in_ok-sets.ensures types) (c.in_ok-others.ensures types)
    (sym c.same_sets.ensures ∙ c.if-not-same_sets.false) c.in_ok-push.ensures.items
