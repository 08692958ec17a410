-- What the binary search finds is there, and what it does not find is looked for in all the members.
use Rattle.std.proofs.Common.{◌≡◌, sym, ◌∙◌, ap, subst}
use Rattle.std.specs.declared.cmp.Ordering.{Ordering}
use Rattle.std.specs.List.Sorted.{IsBinarySearchResult}
use Rattle.theory_syntax.specs.Value.{value_cmp, has_value}
use Rattle.csp_value.specs.declared.value.Value.{Value}
use Rattle.csp_value.specs.Value.{value_of, values_of}
use Rattle.csp_value.proofs.Finding.{found_there, any_has}
use Rattle.csp_value.proofs.Forms.{members_listed}
use Rattle.csp_value.proofs.ValueOrder.{cmp, ordered}
use Rattle.csp_value.proofs.Equality.{value_eq, same_test}
use Rattle.csp_value.proofs.set.SetOf.contains.Goals as goal

pub returns-then-is_ok : goal.returns-then-is_ok
returns-then-is_ok g c =
    let x = c.args.value.now in
    let items = c.deref.result.now in
    let as_values : cmp g.row.A g.A.Allocator g.A.Allocator-dict g.A.Destruct-dict ≡ (λ a b. value_cmp (value_of a) (value_of b)) = λ i a b. ordered g.row.A g.A.Allocator g.A.Allocator-dict g.A.Destruct-dict a b i in
    let P : (Value g.row.A.Denot → Value g.row.A.Denot → Ordering) → Type 0 = λ r. IsBinarySearchResult (λ y. r y x) items c.binary_search.result in
    let there = found_there value_of items x c.binary_search.result c.binary_search.ensures.bound (subst P as_values c.binary_search.ensures.position) (sym c.is_ok.ensures.value ∙ c.if-is_ok.true) in
    c.if-is_ok.true ∙ sym there ∙ ap (λ vs. has_value vs (value_of x)) (ap values_of c.deref.ensures.value ∙ sym (members_listed g.row.A.Denot c.args.self.now))

pub returns-else-is_ok : goal.returns-else-is_ok
returns-else-is_ok g c =
    let x = c.args.value.now in
    let same = same_test g.row.A g.A.Allocator g.A.Allocator-dict g.A.Destruct-dict in
    c.contains.ensures.value ∙ any_has value_of (value_eq g.row.A g.A.Allocator g.A.Allocator-dict g.A.Destruct-dict) same c.deref-else-is_ok.result.now x
    ∙ ap (λ vs. has_value vs (value_of x)) (ap values_of c.deref-else-is_ok.ensures.value ∙ sym (members_listed g.row.A.Denot c.args.self.now))
