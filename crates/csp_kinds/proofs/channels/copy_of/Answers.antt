-- Each set is copied.
use Rattle.std.proofs.Common.{◌≡◌, ◌∙◌, List, map, Some, sym, ap, subst}
use Rattle.theory_syntax.specs.Value.{values_list}
use Rattle.csp_value.specs.declared.field_set.FieldSet.{FieldSet}
use Rattle.csp_value.specs.Copies.{AreCopies}
use Rattle.csp_value.specs.Value.{members_of}
use Rattle.csp_value.proofs.Copying.{copies_read}
use Rattle.csp_names.specs.Scopes.{known_sets}
use Rattle.csp_value.specs.Fields.{field_values}
use Rattle.csp_kinds.proofs.channels.copy_of.Goals as goal

pub returns-in_ok-copy_all-in-Some : goal.returns-in_ok-copy_all-in-Some
returns-in_ok-copy_all-in-Some g c =
    let copy = c.in_ok-copy_all-in-Some.field-0.items in
    let S : List (FieldSet g.row.A.Denot) → Type 0 = λ ss. AreCopies (λ x y. members_of y.values ≡ members_of x.values) ss c.in_ok-copy_all-in-Some.field-0.items in
    let sets : map field_values c.in_ok-copy_all-in-Some.field-0.items ≡ map field_values c.in-Some.sets.items =
    copies_read (λ (s : FieldSet g.row.A.Denot). members_of s.values) values_list c.in-Some.sets.items c.in_ok-copy_all-in-Some.field-0.items (subst S c.deref.ensures.value c.in_ok-copy_all-in-Some.ensures) in
    ap Some sets ∙ ap (known_sets {A = g.row.A.Denot}) (sym c.in-Some.is)
