-- The pairs that name the event stand together, and are found by halving.
use Rattle.std.proofs.Common.{◌≡◌, ℕ, true, false, List, ◌++◌, flat_map, inl, inr, map, sym, ◌∙◌, ap, subst, arith, rules, lit<}
use Rattle.std.proofs.lemmas.List.{append-nil}
use Rattle.std.proofs.lemmas.List.Sorted.{IsPartitionPoint-from_clause}
use Rattle.std.specs.List.Sorted.{IsPartitionPoint}
use Rattle.std.specs.Ordering.{is_lt}
use Rattle.theory_syntax.specs.Value as pure
use Rattle.theory_syntax.proofs.Orders.{event_total}
use Rattle.csp_value.specs.declared.action.Event.{Event}
use Rattle.csp_value.specs.Action.{event_of}
use Rattle.csp_events.specs.Imaging.{EventsRise, event_image}
use Rattle.csp_events.proofs.Naming.{event_differs, no_event_image, one_image}
use Rattle.csp_events.proofs.Ranging.{all_made, lesser_first, made_until, one_made}
use Rattle.csp_events.proofs.images.Images.add_by_events.Goals as goal

abbrev event_key : {A : Type 0} → Event A × Event A → pure.Event
event_key p = event_of p.0

abbrev Parted : {A : Type 0} → pure.Event → List (Event A × Event A) → ℕ → Type 0
Parted k ps i = IsPartitionPoint (λ p. is_lt (pure.event_cmp (event_of p.0) k) ≡ true) (λ p. is_lt (pure.event_cmp (event_of p.0) k) ≡ false) ps i

-- the pairs that are looped over are those that are halved
halved : {A : Type 0} (k : pure.Event) (xs ys zs : List (Event A × Event A)) (i : ℕ) → xs ≡ ys → zs ≡ ys → EventsRise ys → (EventsRise xs → Parted k xs i) → EventsRise zs × Parted k zs i
halved {A} k xs ys zs i first second rises parts =
    let P : List (Event A × Event A) → Type 0 = λ ps. Parted k ps i in (subst EventsRise (sym second) rises, subst P (first ∙ sym second) (parts (subst EventsRise (sym first) rises)))

pub from_residual-requires-in_err-push-room-F-From : goal.from_residual-requires-in_err-push-room-F-From
from_residual-requires-in_err-push-room-F-From g c κs within = elim g.met.A.AllocHandle.small [ inl e ↦ rw (e.0, e.1) (lit< tt) | inr e ↦ rw (e.0, e.1) (lit< tt) ]

pub loop-pair-init : goal.loop-pair-init
loop-pair-init g c = sym (append-nil (map event_of c.args.found.now.items))

pub loop-pair-preserved : goal.loop-pair-preserved
loop-pair-preserved g c =
    let e = event_of c.args.event.now in
    let p = c.pair-item.result in
    let names = sym c.names_event.ensures ∙ c.if-not-names_event.false in
    one_made event_of (event_image e) _ c.loop-pair.pair-index p (map event_of c.args.found.now.items) c.loop-pair.found.items c.push.new.self.items c.in_ok-second.field-0 c.loop-pair.invariant c.loop-pair-test.true c.pair-item.is
    (one_image _ (event_of p.1) (event_of c.in_ok-second.field-0) names c.in_ok-second.ensures) c.in_ok-push.ensures.items

pub returns-then-not-names_event : goal.returns-then-not-names_event
returns-then-not-names_event g c =
    let e = event_of c.args.event.now in
    let parts = halved e c.deref.result.now c.args.self.now.events.items c.deref-2.result.now c.partition_point-first.result c.deref.ensures.value c.deref-2.ensures.value c.requires
    (λ rises. IsPartitionPoint-from_clause (λ p. is_lt (pure.event_cmp (event_of p.0) e)) _ _ c.partition_point-first.ensures.partitioned (lesser_first event_total event_key e c.deref.result.now rises) (λ a r q h. search rules)) in
    c.loop-pair.invariant
    ∙ ap (λ fs. map event_of c.args.found.now.items ++ fs)
    (made_until event_total event_key e c.deref-2.result.now parts.0 (event_image e) (no_event_image e) c.partition_point-first.result parts.1 c.loop-pair.pair-index c.pair-item.result c.loop-pair-test.true c.pair-item.is
    (event_differs e c.pair-item.result (sym c.names_event.ensures ∙ c.if-not-names_event.true)) ∙ ap (flat_map (event_image e)) c.deref-2.ensures.value)

pub returns : goal.returns
returns g c =
    let e = event_of c.args.event.now in
    let parts = halved e c.deref.result.now c.args.self.now.events.items c.deref-2.result.now c.partition_point-first.result c.deref.ensures.value c.deref-2.ensures.value c.requires
    (λ rises. IsPartitionPoint-from_clause (λ p. is_lt (pure.event_cmp (event_of p.0) e)) _ _ c.partition_point-first.ensures.partitioned (lesser_first event_total event_key e c.deref.result.now rises) (λ a r q h. search rules)) in
    c.loop-pair.invariant
    ∙ ap (λ fs. map event_of c.args.found.now.items ++ fs)
    (all_made event_total event_key e c.deref-2.result.now parts.0 (event_image e) (no_event_image e) c.partition_point-first.result parts.1 c.loop-pair.pair-index (omega (arith, c.loop-pair-test.false))
    ∙ ap (flat_map (event_image e)) c.deref-2.ensures.value)
