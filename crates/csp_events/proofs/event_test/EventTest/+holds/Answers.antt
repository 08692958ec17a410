-- Each form of a test.
use Rattle.std.proofs.Common.{map, not, sym, ◌∙◌, ap, subst, inl, inr, lit<}
use Rattle.std.specs.List.{list_any}
use Rattle.std.specs.List.Sorted.{IsSortedBy}
use Rattle.std.specs.Ordering.{is_lt}
use Rattle.theory_syntax.specs.Value.{event_cmp, event_eq}
use Rattle.theory_semantics.specs.Meaning.Events.{begins_with}
use Rattle.csp_value.specs.Action.{event_of}
use Rattle.csp_events.specs.Testing.{AreSorted, combined_test, listed_in, test_of}
use Rattle.csp_events.proofs.Testing.{and_false, and_true, beginnings_sorted, events_sorted, left_smaller, left_sorted, or_false, or_true, right_smaller, right_sorted, test_of_beginnings, test_of_events, test_told}
use Rattle.csp_events.proofs.event_test.EventTest.+holds.Goals as goal

pub is_listed-requires : goal.is_listed-requires
is_listed-requires g t c = (
  elim g.met.A.AllocHandle.small [ inl e ↦ rw (e.0, e.1) (lit< tt) | inr e ↦ rw (e.0, e.1) (lit< tt) ],
  subst (IsSortedBy (λ e f. is_lt (event_cmp (event_of e) (event_of f)))) (sym c.deref.ensures.value) (events_sorted g.row.A.Denot c.args.self.now c.requires c.in-Events.listed c.in-Events.is),
)

pub is_begun-requires : goal.is_begun-requires
is_begun-requires g t c = (
  elim g.met.A.AllocHandle.small [ inl e ↦ rw (e.0, e.1) (lit< tt) | inr e ↦ rw (e.0, e.1) (lit< tt) ],
  subst (IsSortedBy (λ e f. is_lt (event_cmp (event_of e) (event_of f)))) (sym c.deref-in-Beginnings.ensures.value) (beginnings_sorted g.row.A.Denot c.args.self.now c.requires c.in-Beginnings.beginnings c.in-Beginnings.is),
)

pub holds-requires : goal.holds-requires
holds-requires g t c κs within = (
  left_smaller g.row.A.Denot c.args.self.now c.in-Combine.operator c.in-Combine.left c.in-Combine.right c.in-Combine.is t c.decreases c.deref-in-Union.result.now c.deref-in-Union.ensures,
  (within, (elim g.met.A.AllocHandle.small [ inl e ↦ rw (e.0, e.1) (lit< tt) | inr e ↦ rw (e.0, e.1) (lit< tt) ], subst AreSorted (ap listed_in (sym c.deref-in-Union.ensures)) (left_sorted g.row.A.Denot c.args.self.now c.requires c.in-Combine.operator c.in-Combine.left c.in-Combine.right c.in-Combine.is))),
)

pub holds-requires-else-holds : goal.holds-requires-else-holds
holds-requires-else-holds g t c κs within = (
  right_smaller g.row.A.Denot c.args.self.now c.in-Combine.operator c.in-Combine.left c.in-Combine.right c.in-Combine.is t c.decreases c.deref-else-holds.result.now c.deref-else-holds.ensures,
  (within, (elim g.met.A.AllocHandle.small [ inl e ↦ rw (e.0, e.1) (lit< tt) | inr e ↦ rw (e.0, e.1) (lit< tt) ], subst AreSorted (ap listed_in (sym c.deref-else-holds.ensures)) (right_sorted g.row.A.Denot c.args.self.now c.requires c.in-Combine.operator c.in-Combine.left c.in-Combine.right c.in-Combine.is))),
)

pub holds-requires-in-Intersection : goal.holds-requires-in-Intersection
holds-requires-in-Intersection g t c κs within = (
  left_smaller g.row.A.Denot c.args.self.now c.in-Combine.operator c.in-Combine.left c.in-Combine.right c.in-Combine.is t c.decreases c.deref-in-Intersection.result.now c.deref-in-Intersection.ensures,
  (within, (elim g.met.A.AllocHandle.small [ inl e ↦ rw (e.0, e.1) (lit< tt) | inr e ↦ rw (e.0, e.1) (lit< tt) ], subst AreSorted (ap listed_in (sym c.deref-in-Intersection.ensures)) (left_sorted g.row.A.Denot c.args.self.now c.requires c.in-Combine.operator c.in-Combine.left c.in-Combine.right c.in-Combine.is))),
)

pub holds-requires-then-holds-2 : goal.holds-requires-then-holds-2
holds-requires-then-holds-2 g t c κs within = (
  right_smaller g.row.A.Denot c.args.self.now c.in-Combine.operator c.in-Combine.left c.in-Combine.right c.in-Combine.is t c.decreases c.deref-then-holds-2.result.now c.deref-then-holds-2.ensures,
  (within, (elim g.met.A.AllocHandle.small [ inl e ↦ rw (e.0, e.1) (lit< tt) | inr e ↦ rw (e.0, e.1) (lit< tt) ], subst AreSorted (ap listed_in (sym c.deref-then-holds-2.ensures)) (right_sorted g.row.A.Denot c.args.self.now c.requires c.in-Combine.operator c.in-Combine.left c.in-Combine.right c.in-Combine.is))),
)

pub holds-requires-in-Difference : goal.holds-requires-in-Difference
holds-requires-in-Difference g t c κs within = (
  left_smaller g.row.A.Denot c.args.self.now c.in-Combine.operator c.in-Combine.left c.in-Combine.right c.in-Combine.is t c.decreases c.deref-in-Difference.result.now c.deref-in-Difference.ensures,
  (within, (elim g.met.A.AllocHandle.small [ inl e ↦ rw (e.0, e.1) (lit< tt) | inr e ↦ rw (e.0, e.1) (lit< tt) ], subst AreSorted (ap listed_in (sym c.deref-in-Difference.ensures)) (left_sorted g.row.A.Denot c.args.self.now c.requires c.in-Combine.operator c.in-Combine.left c.in-Combine.right c.in-Combine.is))),
)

pub holds-requires-then-holds-3 : goal.holds-requires-then-holds-3
holds-requires-then-holds-3 g t c κs within = (
  right_smaller g.row.A.Denot c.args.self.now c.in-Combine.operator c.in-Combine.left c.in-Combine.right c.in-Combine.is t c.decreases c.deref-then-holds-3.result.now c.deref-then-holds-3.ensures,
  (within, (elim g.met.A.AllocHandle.small [ inl e ↦ rw (e.0, e.1) (lit< tt) | inr e ↦ rw (e.0, e.1) (lit< tt) ], subst AreSorted (ap listed_in (sym c.deref-then-holds-3.ensures)) (right_sorted g.row.A.Denot c.args.self.now c.requires c.in-Combine.operator c.in-Combine.left c.in-Combine.right c.in-Combine.is))),
)

pub returns-in-Events : goal.returns-in-Events
returns-in-Events g t c =
    let e = event_of c.args.event.now in
    c.is_listed.ensures ∙ ap (λ es. list_any (event_eq e) (map event_of es)) c.deref.ensures.value ∙ sym (ap (λ u. test_of u e) c.in-Events.is ∙ test_of_events g.row.A.Denot c.in-Events.listed e)

pub returns-in-Beginnings : goal.returns-in-Beginnings
returns-in-Beginnings g t c =
    let e = event_of c.args.event.now in
    c.is_begun.ensures ∙ ap (λ es. list_any (begins_with e) (map event_of es)) c.deref-in-Beginnings.ensures.value ∙ sym (ap (λ u. test_of u e) c.in-Beginnings.is ∙ test_of_beginnings g.row.A.Denot c.in-Beginnings.beginnings e)

pub returns-then-holds : goal.returns-then-holds
returns-then-holds g t c =
    let e = event_of c.args.event.now in
    let a = c.in-Combine.left in
    let b = c.in-Combine.right in
    or_true c.holds.result (test_of a.value e) (test_of b.value e) c.if-holds.true (c.holds.ensures ∙ ap (λ u. test_of u e) c.deref-in-Union.ensures)
    ∙ sym (test_told g.row.A.Denot c.args.self.now c.requires c.in-Combine.operator a b e c.in-Combine.is ∙ ap (λ op. combined_test op (test_of a.value) (test_of b.value) e) c.in-Union.is)

pub returns-else-holds : goal.returns-else-holds
returns-else-holds g t c =
    let e = event_of c.args.event.now in
    let a = c.in-Combine.left in
    let b = c.in-Combine.right in
    or_false c.holds.result (test_of a.value e) c.holds-else-holds.result (test_of b.value e) c.if-holds.false (c.holds.ensures ∙ ap (λ u. test_of u e) c.deref-in-Union.ensures) (c.holds-else-holds.ensures ∙ ap (λ u. test_of u e) c.deref-else-holds.ensures)
    ∙ sym (test_told g.row.A.Denot c.args.self.now c.requires c.in-Combine.operator a b e c.in-Combine.is ∙ ap (λ op. combined_test op (test_of a.value) (test_of b.value) e) c.in-Union.is)

pub returns-then-holds-2 : goal.returns-then-holds-2
returns-then-holds-2 g t c =
    let e = event_of c.args.event.now in
    let a = c.in-Combine.left in
    let b = c.in-Combine.right in
    and_true c.holds-in-Intersection.result (test_of a.value e) c.holds-then-holds-2.result (test_of b.value e) c.if-holds-2.true (c.holds-in-Intersection.ensures ∙ ap (λ u. test_of u e) c.deref-in-Intersection.ensures) (c.holds-then-holds-2.ensures ∙ ap (λ u. test_of u e) c.deref-then-holds-2.ensures)
    ∙ sym (test_told g.row.A.Denot c.args.self.now c.requires c.in-Combine.operator a b e c.in-Combine.is ∙ ap (λ op. combined_test op (test_of a.value) (test_of b.value) e) c.in-Intersection.is)

pub returns-else-holds-2 : goal.returns-else-holds-2
returns-else-holds-2 g t c =
    let e = event_of c.args.event.now in
    let a = c.in-Combine.left in
    let b = c.in-Combine.right in
    and_false c.holds-in-Intersection.result (test_of a.value e) (test_of b.value e) c.if-holds-2.false (c.holds-in-Intersection.ensures ∙ ap (λ u. test_of u e) c.deref-in-Intersection.ensures)
    ∙ sym (test_told g.row.A.Denot c.args.self.now c.requires c.in-Combine.operator a b e c.in-Combine.is ∙ ap (λ op. combined_test op (test_of a.value) (test_of b.value) e) c.in-Intersection.is)

pub returns-then-holds-3 : goal.returns-then-holds-3
returns-then-holds-3 g t c =
    let e = event_of c.args.event.now in
    let a = c.in-Combine.left in
    let b = c.in-Combine.right in
    and_true c.holds-in-Difference.result (test_of a.value e) (not c.holds-then-holds-3.result) (not (test_of b.value e)) c.if-holds-3.true (c.holds-in-Difference.ensures ∙ ap (λ u. test_of u e) c.deref-in-Difference.ensures) (ap not (c.holds-then-holds-3.ensures ∙ ap (λ u. test_of u e) c.deref-then-holds-3.ensures))
    ∙ sym (test_told g.row.A.Denot c.args.self.now c.requires c.in-Combine.operator a b e c.in-Combine.is ∙ ap (λ op. combined_test op (test_of a.value) (test_of b.value) e) c.in-Difference.is)

pub returns-else-holds-3 : goal.returns-else-holds-3
returns-else-holds-3 g t c =
    let e = event_of c.args.event.now in
    let a = c.in-Combine.left in
    let b = c.in-Combine.right in
    and_false c.holds-in-Difference.result (test_of a.value e) (not (test_of b.value e)) c.if-holds-3.false (c.holds-in-Difference.ensures ∙ ap (λ u. test_of u e) c.deref-in-Difference.ensures)
    ∙ sym (test_told g.row.A.Denot c.args.self.now c.requires c.in-Combine.operator a b e c.in-Combine.is ∙ ap (λ op. combined_test op (test_of a.value) (test_of b.value) e) c.in-Difference.is)
