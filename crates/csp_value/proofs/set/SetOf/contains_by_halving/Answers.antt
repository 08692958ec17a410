-- In a set whose members rise, what the binary search misses is not there.
use Rattle.std.proofs.Common.{◌≡◌, sym, ◌∙◌, ap, subst}
use Rattle.std.specs.declared.cmp.Ordering.{Ordering}
use Rattle.std.specs.List.Sorted.{IsBinarySearchResult}
use Rattle.theory_syntax.specs.Value.{value_cmp, has_value, values_list}
use Rattle.csp_value.specs.declared.value.Value.{Value}
use Rattle.csp_value.specs.Value.{members_of, value_of, values_of}
use Rattle.csp_value.proofs.Finding.{search_tells}
use Rattle.csp_value.proofs.Forms.{members_listed}
use Rattle.csp_value.proofs.Sets.{Rises}
use Rattle.csp_value.proofs.ValueOrder.{cmp, ordered}
use Rattle.csp_value.proofs.set.SetOf.contains_by_halving.Goals as goal

pub returns : goal.returns
returns g c rising =
    let x = c.args.value.now in
    let items = c.deref.result.now in
    let as_values : cmp g.row.A g.A.Allocator g.A.Allocator-dict g.A.Destruct-dict ≡ (λ a b. value_cmp (value_of a) (value_of b)) = λ i a b. ordered g.row.A g.A.Allocator g.A.Allocator-dict g.A.Destruct-dict a b i in
    let P : (Value g.row.A.Denot → Value g.row.A.Denot → Ordering) → Type 0 = λ r. IsBinarySearchResult (λ y. r y x) items c.binary_search.result in
    let listed : values_list (members_of c.args.self.now) ≡ values_of items = members_listed g.row.A.Denot c.args.self.now ∙ ap values_of (sym c.deref.ensures.value) in
    c.is_ok.ensures.value ∙ search_tells value_of items x c.binary_search.result (subst Rises listed rising) c.binary_search.ensures.bound (subst P as_values c.binary_search.ensures.position)
    ∙ ap (λ vs. has_value vs (value_of x)) (sym listed)
