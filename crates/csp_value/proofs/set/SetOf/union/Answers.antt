-- Where the other set's members rise all are sorted together, and else each value is put in by itself.
use Rattle.std.proofs.Common.{◌≡◌, List, sym, ◌∙◌, ap, ap₂, subst, IfOk, Result, Ok, Err}
use Rattle.std.proofs.lemmas.List.{map-append}
use Rattle.theory_syntax.specs.Value as pure
use Rattle.theory_syntax.specs.Value.{insert_values, sorted_values, to_values, values_list}
use Rattle.theory_semantics.specs.Meaning.Offers.{rises}
use Rattle.theory_semantics.proofs.RisingValues.{told_rises}
use Rattle.csp_value.specs.declared.set.SetOf.{SetOf}
use Rattle.csp_value.specs.Value.{IsRisingSet, members_of, value_of, values_of}
use Rattle.csp_value.proofs.Forms.{listed, members_listed}
use Rattle.csp_value.proofs.Sets.{Rises, inserts_rise, sorted_append}
use Rattle.csp_value.proofs.set.SetOf.union.Goals as goal

module _ {A E : Type 0} (r : Result (SetOf A) E) (vs ws : List pure.Value) where
  each_rises : IfOk r (λ both. members_of both ≡ to_values (insert_values vs ws)) → Rises ws → IfOk r IsRisingSet
  each_rises = in_case r
    where
      in_case : (q : Result (SetOf A) E) → IfOk q (λ both. members_of both ≡ to_values (insert_values vs ws)) → Rises ws → IfOk q IsRisingSet
      in_case (Ok both) is rises = subst Rises (sym (ap values_list is ∙ listed (insert_values vs ws))) (inserts_rise vs ws rises)
      in_case (Err e) is rises = tt

pub returns-then-not-is_rising-clause-members : goal.returns-then-not-is_rising-clause-members
returns-then-not-is_rising-clause-members g c =
    let Each : List pure.Value → List pure.Value → Type 0 = λ vs ws. IfOk c.insert_each.result (λ both. members_of both ≡ to_values (insert_values vs ws)) in
    let left = sym (members_listed g.row.A.Denot c.args.self) in
    let right = sym (members_listed g.row.A.Denot c.args.other) in
    subst (λ vs. Each vs (values_list (members_of c.args.other))) left (subst (λ ws. Each (values_of c.args.self.members.items) ws) right c.insert_each.ensures)

pub returns-then-not-is_rising-clause-rising : goal.returns-then-not-is_rising-clause-rising
returns-then-not-is_rising-clause-rising g c rises =
    each_rises c.insert_each.result (values_list (members_of c.args.self)) (values_list (members_of c.args.other)) (returns-then-not-is_rising-clause-members g c) rises

pub returns-clause-members : goal.returns-clause-members
returns-clause-members g c =
    let left = members_listed g.row.A.Denot c.args.self in
    let right = members_listed g.row.A.Denot c.args.other in
    let ours = c.args.self.members.items in
    let others = c.args.other.members.items in
    let joined = ap values_of c.in_ok-append.ensures.items ∙ map-append value_of ours others in
    let read = ap values_of c.deref.ensures.value in
    let rises = told_rises (values_of others) (ap rises (sym read) ∙ sym c.is_rising.ensures ∙ c.if-not-is_rising.false) in
    c.from_values.ensures.members ∙ ap (λ vs. to_values (sorted_values vs)) joined ∙ ap to_values (sorted_append (values_of ours) (values_of others) rises ∙ ap₂ insert_values (sym left) (sym right))
