-- The binary search tells whether the event is there.
use Rattle.std.proofs.Common.{◌≡◌, ◌∙◌, subst}
use Rattle.std.specs.declared.cmp.Ordering.{Ordering}
use Rattle.std.specs.List.Sorted.{IsBinarySearchResult}
use Rattle.theory_syntax.specs.Value.{event_cmp}
use Rattle.theory_syntax.proofs.Orders.{event_total}
use Rattle.csp_value.specs.declared.action.Event.{Event}
use Rattle.csp_value.specs.Action.{event_of}
use Rattle.csp_value.proofs.ActionOrder.{event_order, event_ordered}
use Rattle.csp_events.proofs.Halving.{told_by_halving}
use Rattle.csp_events.proofs.event_test.is_listed.Goals as goal

pub returns : goal.returns
returns g c =
    let x = c.args.event.now in
    let items = c.args.listed.now in
    let order = event_order g.row.A g.A.AllocHandle g.A.AllocHandle-dict g.A.Allocator g.A.Allocator-dict g.A.Clone g.A.Clone-dict in
    let as_events : order ≡ (λ e f. event_cmp (event_of e) (event_of f)) = λ i e f. event_ordered g.row.A g.A.AllocHandle g.A.AllocHandle-dict g.A.Allocator g.A.Allocator-dict g.A.Clone g.A.Clone-dict e f i in
    let P : (Event g.row.A.Denot → Event g.row.A.Denot → Ordering) → Type 0 = λ r. IsBinarySearchResult (λ y. r y x) items c.binary_search.result in
    c.is_ok.ensures.value ∙ told_by_halving event_total event_of (event_of x) items c.binary_search.result c.requires c.binary_search.ensures.bound (subst P as_events c.binary_search.ensures.position)
