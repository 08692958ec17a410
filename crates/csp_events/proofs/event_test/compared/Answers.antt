-- The channels decide where they differ, and else the fields.
use Rattle.std.proofs.Common.{sym, ◌∙◌, ap}
use Rattle.std.specs.Cmp.Lexicographic.{slice_cmp}
use Rattle.std.specs.Ordering.{ordering_then}
use Rattle.theory_syntax.specs.Value as pure
use Rattle.csp_value.specs.Value.{value_of, values_of}
use Rattle.csp_value.proofs.ValueOrder.{cmp, ordered}
use Rattle.csp_value.proofs.Slices.{slices_ordered}
use Rattle.csp_events.proofs.Fronts.{decided}
use Rattle.csp_events.proofs.event_test.compared.Goals as goal

pub returns-in-Equal : goal.returns-in-Equal
returns-in-Equal g c =
    let fields = c.args.beginning.now.fields.items in
    let wanted = c.args.fields.now in
    let order = cmp g.row.A g.A.Allocator g.A.Allocator-dict g.A.Allocator-dict in
    let rest = slice_cmp pure.value_cmp (values_of fields) (values_of wanted) in
    c.cmp-in-Equal.ensures ∙ ap (λ vs. slice_cmp order vs wanted) c.as_slice.ensures ∙ slices_ordered order pure.value_cmp value_of (ordered g.row.A g.A.Allocator g.A.Allocator-dict g.A.Allocator-dict) fields wanted
    ∙ sym (ap (λ o. ordering_then o rest) (sym c.cmp.ensures ∙ c.in-Equal.is))

pub returns-in_default : goal.returns-in_default
returns-in_default g c =
    let rest = slice_cmp pure.value_cmp (values_of c.args.beginning.now.fields.items) (values_of c.args.fields.now) in
    decided c.cmp.result rest c.in_default.not-Equal ∙ ap (λ o. ordering_then o rest) c.cmp.ensures
