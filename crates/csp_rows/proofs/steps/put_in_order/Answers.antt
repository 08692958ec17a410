-- The sort keeps the steps, and each target is kept once.
use Rattle.std.proofs.Common.{◌≡◌, of_calls, rules}
use Rattle.std.proofs.lemmas.Fn.{always_returns_same, dedup_same}
use Rattle.std.proofs.lemmas.List.Sorted.{ranks_by}
use Rattle.std.specs.List.{dedup}
use Rattle.std.specs.List.Sorted.{IsSorted}
use Rattle.std.specs.Ordering.{is_eq, is_lt}
use Rattle.csp_rows.specs.ByOrder.{step_order}
use Rattle.csp_rows.proofs.Ordered.{fall_never, put_so, step_total}
use Rattle.csp_rows.proofs.steps.put_in_order.Goals as goal

pub dedup_by-requires : goal.dedup_by-requires
dedup_by-requires g c = search of_calls parts 8

pub returns : goal.returns
returns g c =
    let order = g.O.PartOrder.order c.args.parts.now in
    let total = g.met.O.PartOrder.total c.args.parts.now in
    let row = c.args.row.now in
    let pool = c.args.pool.now in
    let given = c.args.steps.now.items in
    let sorted = c.sort_unstable_by.new.self.items in
    let once = c.dedup_by.new.self.items in
    let in_order : IsSorted (step_order order row pool) sorted =
    c.sort_unstable_by.ensures.sorted (λ s t. is_lt (step_order order row pool s t)) (ranks_by (step_total order total row pool) (λ s. s)) (always_returns_same _ _ _ (λ a o h k. search rules))
    in
    let is : once ≡ dedup (λ s t. is_eq (step_order order row pool s t)) sorted =
    dedup_same _ (λ s t. is_eq (step_order order row pool s t)) _ (λ x k b f' x' k' h. search rules) sorted once c.dedup_by.ensures.filtered
    in
    let moved = c.sort_unstable_by.ensures.permutation in
    record { order = put_so order total row pool given sorted once moved in_order is; actions = fall_never order total row pool given sorted once moved in_order is }
