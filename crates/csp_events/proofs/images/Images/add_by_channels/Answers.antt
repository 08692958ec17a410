-- The pairs that name the event stand together, and are found by halving.
use Rattle.std.proofs.Common.{◌≡◌, ℕ, true, false, List, ◌++◌, flat_map, inl, inr, map, sym, ◌∙◌, ap, subst, arith, rules, lit<}
use Rattle.std.proofs.lemmas.Cmp.{nat_cmp_total}
use Rattle.std.proofs.lemmas.List.{append-nil}
use Rattle.std.proofs.lemmas.List.Sorted.{IsPartitionPoint-from_clause}
use Rattle.std.specs.List.Sorted.{IsPartitionPoint}
use Rattle.std.specs.Ordering.{is_lt, nat_cmp}
use Rattle.csp_value.specs.declared.name.ChannelId.{ChannelId}
use Rattle.csp_value.specs.Action.{event_of}
use Rattle.csp_events.specs.Imaging.{ChannelsRise, channel_image}
use Rattle.csp_events.proofs.Naming.{channel_differs, no_channel_image, one_image}
use Rattle.csp_events.proofs.Ranging.{all_made, lesser_first, made_until_at, one_made_at}
use Rattle.csp_events.proofs.images.Images.add_by_channels.Goals as goal

abbrev channel_key : ChannelId × ChannelId → ℕ
channel_key p = p.0.0

abbrev Parted : ℕ → List (ChannelId × ChannelId) → ℕ → Type 0
Parted k ps i = IsPartitionPoint (λ p. is_lt (nat_cmp p.0.0 k) ≡ true) (λ p. is_lt (nat_cmp p.0.0 k) ≡ false) ps i

-- the pairs that are looped over are those that are halved
halved : (k : ℕ) (xs ys zs : List (ChannelId × ChannelId)) (i : ℕ) → xs ≡ ys → zs ≡ ys → ChannelsRise ys → (ChannelsRise xs → Parted k xs i) → ChannelsRise zs × Parted k zs i
halved k xs ys zs i first second rises parts =
    let P : List (ChannelId × ChannelId) → Type 0 = λ ps. Parted k ps i in (subst ChannelsRise (sym second) rises, subst P (first ∙ sym second) (parts (subst ChannelsRise (sym first) rises)))

pub from_residual-requires-in_err-push-room-F-From : goal.from_residual-requires-in_err-push-room-F-From
from_residual-requires-in_err-push-room-F-From g c κs within = elim g.met.A.AllocHandle.small [ inl e ↦ rw (e.0, e.1) (lit< tt) | inr e ↦ rw (e.0, e.1) (lit< tt) ]

pub loop-pair-init : goal.loop-pair-init
loop-pair-init g c = sym (append-nil (map event_of c.args.found.now.items))

pub loop-pair-preserved : goal.loop-pair-preserved
loop-pair-preserved g c =
    let e = event_of c.args.event.now in
    let names = sym c.names_channel.ensures ∙ c.if-not-names_channel.false in
    one_made_at event_of (channel_image e) _ c.loop-pair.pair-index _ (map event_of c.args.found.now.items) c.loop-pair.found.items c.push.new.self.items c.in_ok-on_channel.field-0 c.loop-pair.invariant c.loop-pair-test.true
    (one_image _ _ (event_of c.in_ok-on_channel.field-0) names c.in_ok-on_channel.ensures) c.in_ok-push.ensures.items

pub returns-then-not-names_channel : goal.returns-then-not-names_channel
returns-then-not-names_channel g c =
    let k = c.args.event.now.channel.0 in
    let e = event_of c.args.event.now in
    let parts = halved k c.deref.result.now c.args.self.now.channels.items c.deref-2.result.now c.partition_point-first.result c.deref.ensures.value c.deref-2.ensures.value c.requires
    (λ rises. IsPartitionPoint-from_clause (λ p. is_lt (nat_cmp p.0.0 k)) _ _ c.partition_point-first.ensures.partitioned (lesser_first nat_cmp_total channel_key k c.deref.result.now rises) (λ a r q h. search rules)) in
    c.loop-pair.invariant
    ∙ ap (λ fs. map event_of c.args.found.now.items ++ fs)
    (made_until_at nat_cmp_total channel_key k c.deref-2.result.now parts.0 (channel_image e) (no_channel_image e) c.partition_point-first.result parts.1 c.loop-pair.pair-index (record { 0 = 0 }, record { 0 = 0 }) c.loop-pair-test.true
    (channel_differs _ k (sym c.names_channel.ensures ∙ c.if-not-names_channel.true)) ∙ ap (flat_map (channel_image e)) c.deref-2.ensures.value)

pub returns : goal.returns
returns g c =
    let k = c.args.event.now.channel.0 in
    let e = event_of c.args.event.now in
    let parts = halved k c.deref.result.now c.args.self.now.channels.items c.deref-2.result.now c.partition_point-first.result c.deref.ensures.value c.deref-2.ensures.value c.requires
    (λ rises. IsPartitionPoint-from_clause (λ p. is_lt (nat_cmp p.0.0 k)) _ _ c.partition_point-first.ensures.partitioned (lesser_first nat_cmp_total channel_key k c.deref.result.now rises) (λ a r q h. search rules)) in
    c.loop-pair.invariant
    ∙ ap (λ fs. map event_of c.args.found.now.items ++ fs)
    (all_made nat_cmp_total channel_key k c.deref-2.result.now parts.0 (channel_image e) (no_channel_image e) c.partition_point-first.result parts.1 c.loop-pair.pair-index (omega (arith, c.loop-pair-test.false))
    ∙ ap (flat_map (channel_image e)) c.deref-2.ensures.value)
