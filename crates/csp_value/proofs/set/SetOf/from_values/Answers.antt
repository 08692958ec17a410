-- What is sorted and kept once is the sorted values.
use Rattle.std.proofs.Common.{◌≡◌, sym, ◌∙◌, ap, subst}
use Rattle.std.specs.declared.cmp.Ordering.{Ordering}
use Rattle.std.specs.List.Sorted.{IsSorted}
use Rattle.std.specs.Ordering.{is_eq}
use Rattle.std.proofs.lemmas.List.Filters.{dedup_is}
use Rattle.theory_syntax.specs.Value.{value_cmp, sorted_values, to_values, values_list}
use Rattle.csp_value.specs.declared.value.Value.{Value}
use Rattle.csp_value.specs.contracts.value.ValueOrd.TheImpl.Laws as laws
use Rattle.csp_value.specs.Value.{value_of, values_of}
use Rattle.csp_value.proofs.Equality.{value_eq, value_tells}
use Rattle.csp_value.proofs.Forms.{listed, members_of_made}
use Rattle.csp_value.proofs.Sets.{Rises, sorted_rise}
use Rattle.csp_value.proofs.Sorting.{once_sorted}
use Rattle.csp_value.proofs.ValueOrder.{cmp, ordered}
use Rattle.csp_value.proofs.set.SetOf.from_values.Goals as goal

pub returns-clause-members : goal.returns-clause-members
returns-clause-members g c =
    let a = g.A.Allocator in
    let eq = value_eq g.row.A a g.A.Allocator-dict g.A.Destruct-dict in
    let sorted = c.sort_unstable.new.self.items in
    let as_values : cmp g.row.A a g.A.Allocator-dict g.A.Destruct-dict ≡ (λ x y. value_cmp (value_of x) (value_of y)) = λ i x y. ordered g.row.A a g.A.Allocator-dict g.A.Destruct-dict x y i in
    let P : (Value g.row.A.Denot → Value g.row.A.Denot → Ordering) → Type 0 = λ r. IsSorted r sorted in
    let once = once_sorted value_of eq (value_tells g.row.A a g.A.Allocator-dict g.A.Destruct-dict).sound
    (λ x y. laws.matches_eq-law g.row.A a g.A.Allocator-dict g.A.Destruct-dict x y ∙ ap is_eq (ordered g.row.A a g.A.Allocator-dict g.A.Destruct-dict x y))
    c.args.values.items sorted c.sort_unstable.ensures.permutation (subst P as_values c.sort_unstable.ensures.sorted) in
    members_of_made g.row.A.Denot c.dedup.new.self ∙ ap to_values (ap values_of (dedup_is eq sorted c.dedup.new.self.items c.dedup.ensures.filtered) ∙ once)

pub returns-clause-rising : goal.returns-clause-rising
returns-clause-rising g c =
    subst Rises (sym (ap values_list (returns-clause-members g c) ∙ listed (sorted_values (values_of c.args.values.items)))) (sorted_rise (values_of c.args.values.items))
