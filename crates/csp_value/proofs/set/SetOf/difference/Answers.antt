-- What is kept is what the other set does not have.
use Rattle.std.proofs.Common.{◌≡◌, Bool, filter, not, sym, ◌∙◌, ap, subst, rules}
use Rattle.std.proofs.lemmas.Fn.{filter_same}
use Rattle.theory_syntax.specs.Value as pure
use Rattle.theory_syntax.specs.Value.{has_value, to_values, values_list}
use Rattle.csp_value.specs.declared.set.SetOf.{out-SetOf}
use Rattle.theory_semantics.specs.Meaning.Offers.{rises}
use Rattle.theory_semantics.proofs.RisingValues.{told_rises}
use Rattle.csp_value.specs.Value.{IsRisingSet, members_of, value_of, values_of}
use Rattle.csp_value.proofs.Finding.{filter_rises}
use Rattle.csp_value.proofs.Forms.{listed, members_listed, members_of_made}
use Rattle.csp_value.proofs.Sets.{Rises, map-filter}
use Rattle.csp_value.proofs.set.SetOf.difference.Goals as goal
use Rattle.csp_value.proofs.set.SetOf.difference.Goals.{then-is_rising, else-is_rising}

pub returns-clause-members : goal.returns-clause-members
returns-clause-members g c =
    let others = values_list (members_of c.args.other.now) in
    let test : pure.Value → Bool = λ v. not (has_value others v) in
    let items = (out-SetOf g.row.A.Denot c.args.self).members.items in
    let kept : c.if-is_rising.members.items ≡ filter (λ x. test (value_of x)) items =
    elim c.if-is_rising.branch [
      | then-is_rising w ↦
          let rising : IsRisingSet c.args.other.now = subst Rises (sym (members_listed g.row.A.Denot c.args.other.now ∙ ap values_of (sym c.deref.ensures.value))) (told_rises (values_of c.deref.result.now) (sym c.is_rising.ensures ∙ w.if-is_rising.true)) in
          ap (λ v. v.items) w.members-is ∙ filter_same _ (λ x. test (value_of x)) _ (λ x b f' k. search rules) items w.retain.new.self.items w.retain.ensures.filtered
      | else-is_rising w ↦ ap (λ v. v.items) w.members-is ∙ filter_same _ (λ x. test (value_of x)) _ (λ x b f' k. search rules) items w.retain-else-is_rising.new.self.items w.retain-else-is_rising.ensures.filtered
    ] in
    members_of_made g.row.A.Denot c.if-is_rising.members ∙ ap to_values (ap values_of kept ∙ map-filter value_of test items ∙ ap (filter test) (sym (members_listed g.row.A.Denot c.args.self)))

pub returns-clause-rising : goal.returns-clause-rising
returns-clause-rising g c rises =
    let others = values_list (members_of c.args.other.now) in
    let test : pure.Value → Bool = λ v. not (has_value others v) in
    let items = (out-SetOf g.row.A.Denot c.args.self).members.items in
    let is = ap values_list (returns-clause-members g c) ∙ listed (filter test (values_list (members_of c.args.self))) ∙ ap (filter test) (members_listed g.row.A.Denot c.args.self) ∙ sym (map-filter value_of test items) in
    subst Rises (sym is) (filter_rises value_of (λ x. test (value_of x)) items (subst Rises (members_listed g.row.A.Denot c.args.self) rises))
