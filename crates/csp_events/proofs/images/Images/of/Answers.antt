-- Each pair in turn, or the first cause; all are sorted then.
use Rattle.std.proofs.Common.{◌≡◌, Result, Err, inl, inr, lit<, sym, ◌∙◌, ap, subst, arith}
use Rattle.std.proofs.lemmas.List.{take_all}
use Rattle.std.proofs.lemmas.Result.{err_from_is_err_and}
use Rattle.std.specs.declared.cmp.Ordering.{Ordering}
use Rattle.std.specs.List.Sorted.{IsSortedBy}
use Rattle.std.specs.Ordering.{is_lt, nat_cmp}
use Rattle.theory_syntax.specs.Value as pure
use Rattle.theory_semantics.specs.Meaning.Events.{renaming}
use Rattle.csp_value.specs.declared.action.Event.{Event}
use Rattle.csp_value.specs.Action.{event_of}
use Rattle.csp_value.proofs.ActionOrder.{event_order, event_ordered}
use Rattle.csp_events.specs.Events.{renaming_pairs_of}
use Rattle.csp_events.specs.Channels.{declaring}
use Rattle.csp_events.specs.declared.images.Images.{Images}
use Rattle.csp_expression.specs.declared.no_value.NoValue.{NoValue}
use Rattle.csp_events.specs.Imaging.{AreMade, IsImagesOf}
use Rattle.csp_events.proofs.Naming.{firsts_rise, found_moved, none_named, one_pair_more, stops_at_pair}
use Rattle.csp_events.proofs.images.Images.of.Goals as goal

pub drop-images-requires-in_err-add_pair-room-T-Destruct : goal.drop-images-requires-in_err-add_pair-room-T-Destruct
drop-images-requires-in_err-add_pair-room-T-Destruct g c κs within = elim g.met.A.AllocHandle.small [ inl e ↦ rw (e.0, e.1) (lit< tt) | inr e ↦ rw (e.0, e.1) (lit< tt) ]

pub drop-images-requires-in_err-add_pair-room-T-Destruct-2 : goal.drop-images-requires-in_err-add_pair-room-T-Destruct-2
drop-images-requires-in_err-add_pair-room-T-Destruct-2 g c κs within = elim g.met.A.AllocHandle.small [ inl e ↦ rw (e.0, e.1) (lit< tt) | inr e ↦ rw (e.0, e.1) (lit< tt) ]

pub sort_unstable-requires-2-room-T-Ord : goal.sort_unstable-requires-2-room-T-Ord
sort_unstable-requires-2-room-T-Ord g c κs within = elim g.met.A.AllocHandle.small [ inl e ↦ rw (e.0, e.1) (lit< tt) | inr e ↦ rw (e.0, e.1) (lit< tt) ]

pub sort_unstable-requires-2-room-T-Ord-2 : goal.sort_unstable-requires-2-room-T-Ord-2
sort_unstable-requires-2-room-T-Ord-2 g c κs within = elim g.met.A.AllocHandle.small [ inl e ↦ rw (e.0, e.1) (lit< tt) | inr e ↦ rw (e.0, e.1) (lit< tt) ]

pub sort_unstable-requires-2-room-T-Ord-3 : goal.sort_unstable-requires-2-room-T-Ord-3
sort_unstable-requires-2-room-T-Ord-3 g c κs within = elim g.met.A.AllocHandle.small [ inl e ↦ rw (e.0, e.1) (lit< tt) | inr e ↦ rw (e.0, e.1) (lit< tt) ]

pub sort_unstable-requires-2-room-T-Ord-4 : goal.sort_unstable-requires-2-room-T-Ord-4
sort_unstable-requires-2-room-T-Ord-4 g c κs within = elim g.met.A.AllocHandle.small [ inl e ↦ rw (e.0, e.1) (lit< tt) | inr e ↦ rw (e.0, e.1) (lit< tt) ]

pub sort_unstable-requires-2-room-T-Ord-5 : goal.sort_unstable-requires-2-room-T-Ord-5
sort_unstable-requires-2-room-T-Ord-5 g c κs within = elim g.met.A.AllocHandle.small [ inl e ↦ rw (e.0, e.1) (lit< tt) | inr e ↦ rw (e.0, e.1) (lit< tt) ]

pub sort_unstable-requires-2-room-T-Ord-6 : goal.sort_unstable-requires-2-room-T-Ord-6
sort_unstable-requires-2-room-T-Ord-6 g c κs within = elim g.met.A.AllocHandle.small [ inl e ↦ rw (e.0, e.1) (lit< tt) | inr e ↦ rw (e.0, e.1) (lit< tt) ]

pub sort_unstable-requires-2-room-T-Ord-7 : goal.sort_unstable-requires-2-room-T-Ord-7
sort_unstable-requires-2-room-T-Ord-7 g c κs within = elim g.met.A.AllocHandle.small [ inl e ↦ rw (e.0, e.1) (lit< tt) | inr e ↦ rw (e.0, e.1) (lit< tt) ]

pub sort_unstable-requires-2-room-T-Ord-8 : goal.sort_unstable-requires-2-room-T-Ord-8
sort_unstable-requires-2-room-T-Ord-8 g c κs within = elim g.met.A.AllocHandle.small [ inl e ↦ rw (e.0, e.1) (lit< tt) | inr e ↦ rw (e.0, e.1) (lit< tt) ]

pub sort_unstable-requires-2-room-T-Eq : goal.sort_unstable-requires-2-room-T-Eq
sort_unstable-requires-2-room-T-Eq g c κs within = elim g.met.A.AllocHandle.small [ inl e ↦ rw (e.0, e.1) (lit< tt) | inr e ↦ rw (e.0, e.1) (lit< tt) ]

pub sort_unstable-requires-2-room-T-Eq-2 : goal.sort_unstable-requires-2-room-T-Eq-2
sort_unstable-requires-2-room-T-Eq-2 g c κs within = elim g.met.A.AllocHandle.small [ inl e ↦ rw (e.0, e.1) (lit< tt) | inr e ↦ rw (e.0, e.1) (lit< tt) ]

pub sort_unstable-requires-2-room-T-Eq-3 : goal.sort_unstable-requires-2-room-T-Eq-3
sort_unstable-requires-2-room-T-Eq-3 g c κs within = elim g.met.A.AllocHandle.small [ inl e ↦ rw (e.0, e.1) (lit< tt) | inr e ↦ rw (e.0, e.1) (lit< tt) ]

pub sort_unstable-requires-2-room-T-Eq-4 : goal.sort_unstable-requires-2-room-T-Eq-4
sort_unstable-requires-2-room-T-Eq-4 g c κs within = elim g.met.A.AllocHandle.small [ inl e ↦ rw (e.0, e.1) (lit< tt) | inr e ↦ rw (e.0, e.1) (lit< tt) ]

pub sort_unstable-requires-2-room-T-PartialEq : goal.sort_unstable-requires-2-room-T-PartialEq
sort_unstable-requires-2-room-T-PartialEq g c κs within = elim g.met.A.AllocHandle.small [ inl e ↦ rw (e.0, e.1) (lit< tt) | inr e ↦ rw (e.0, e.1) (lit< tt) ]

pub sort_unstable-requires-2-room-T-PartialEq-2 : goal.sort_unstable-requires-2-room-T-PartialEq-2
sort_unstable-requires-2-room-T-PartialEq-2 g c κs within = elim g.met.A.AllocHandle.small [ inl e ↦ rw (e.0, e.1) (lit< tt) | inr e ↦ rw (e.0, e.1) (lit< tt) ]

pub sort_unstable-requires-2-room-T-PartialOrd : goal.sort_unstable-requires-2-room-T-PartialOrd
sort_unstable-requires-2-room-T-PartialOrd g c κs within = elim g.met.A.AllocHandle.small [ inl e ↦ rw (e.0, e.1) (lit< tt) | inr e ↦ rw (e.0, e.1) (lit< tt) ]

pub sort_unstable-requires-2-room-T-PartialOrd-2 : goal.sort_unstable-requires-2-room-T-PartialOrd-2
sort_unstable-requires-2-room-T-PartialOrd-2 g c κs within = elim g.met.A.AllocHandle.small [ inl e ↦ rw (e.0, e.1) (lit< tt) | inr e ↦ rw (e.0, e.1) (lit< tt) ]

pub sort_unstable-requires-2-room-T-PartialOrd-3 : goal.sort_unstable-requires-2-room-T-PartialOrd-3
sort_unstable-requires-2-room-T-PartialOrd-3 g c κs within = elim g.met.A.AllocHandle.small [ inl e ↦ rw (e.0, e.1) (lit< tt) | inr e ↦ rw (e.0, e.1) (lit< tt) ]

pub sort_unstable-requires-2-room-T-PartialOrd-4 : goal.sort_unstable-requires-2-room-T-PartialOrd-4
sort_unstable-requires-2-room-T-PartialOrd-4 g c κs within = elim g.met.A.AllocHandle.small [ inl e ↦ rw (e.0, e.1) (lit< tt) | inr e ↦ rw (e.0, e.1) (lit< tt) ]

pub loop-pair-init : goal.loop-pair-init
loop-pair-init g c = none_named (declaring c.args.types.now c.args.channels.now) (record { channels = c.new.result; events = c.new-2.result }) c.new.ensures.items c.new-2.ensures.items

pub loop-pair-preserved : goal.loop-pair-preserved
loop-pair-preserved g c =
    one_pair_more (declaring c.args.types.now c.args.channels.now) c.args.pairs.now c.loop-pair.pair-index c.pair-item.result c.loop-pair-test.true c.pair-item.is c.loop-pair.images c.add_pair.new.self c.loop-pair.invariant c.in_ok-add_pair.ensures

pub returns-in_err-add_pair : goal.returns-in_err-add_pair
returns-in_err-add_pair g c =
    let script = declaring c.args.types.now c.args.channels.now in
    let p = err_from_is_err_and c.from_residual.result c.from_residual.ensures.1 in
    let P : Result (Images g.row.A.Denot) NoValue → Type 0 = λ r. IsImagesOf r (renaming script (renaming_pairs_of c.args.pairs.now)) in
    subst P (sym (p.1 ∙ ap Err p.2))
    (stops_at_pair script c.args.pairs.now c.loop-pair.pair-index c.pair-item.result c.loop-pair-test.true c.pair-item.is c.loop-pair.images c.add_pair.new.self c.loop-pair.invariant c.in_err-add_pair.field-0.0 c.in_err-add_pair.ensures)

pub returns : goal.returns
returns g c =
    let order = event_order g.row.A g.A.AllocHandle g.A.AllocHandle-dict g.A.Allocator g.A.Allocator-dict g.A.Clone g.A.Clone-dict in
    let as_events : order ≡ (λ e f. pure.event_cmp (event_of e) (event_of f)) = λ i e f. event_ordered g.row.A g.A.AllocHandle g.A.AllocHandle-dict g.A.Allocator g.A.Allocator-dict g.A.Clone g.A.Clone-dict e f i in
    let P : (Event g.row.A.Denot → Event g.row.A.Denot → Ordering) → Type 0 = λ r. IsSortedBy (λ p q. is_lt (r p.0 q.0)) c.sort_unstable-2.new.self.items in
    let all = take_all c.loop-pair.pair-index c.args.pairs.now (omega arith) in
    let made = subst (λ ps. AreMade c.loop-pair.images (renaming (declaring c.args.types.now c.args.channels.now) (renaming_pairs_of ps))) all c.loop-pair.invariant in (
      found_moved c.loop-pair.images (record { channels = c.sort_unstable.new.self; events = c.sort_unstable-2.new.self }) (renaming (declaring c.args.types.now c.args.channels.now) (renaming_pairs_of c.args.pairs.now)) made c.sort_unstable.ensures.permutation c.sort_unstable-2.ensures.permutation,
      (
        firsts_rise (λ p q. nat_cmp p.0.0 q.0.0) (λ p q. nat_cmp p.1.0 q.1.0) c.sort_unstable.new.self.items c.sort_unstable.ensures.sorted,
        subst P as_events (firsts_rise (λ p q. order p.0 q.0) (λ p q. order p.1 q.1) c.sort_unstable-2.new.self.items c.sort_unstable-2.ensures.sorted),
      ),
    )
