-- Each set is copied.
use Rattle.std.proofs.Common.{◌≡◌, List, subst}
use Rattle.theory_syntax.specs.Value.{values_list}
use Rattle.csp_value.specs.declared.field_set.FieldSet.{FieldSet}
use Rattle.csp_value.specs.Copies.{AreCopies}
use Rattle.csp_value.specs.Value.{members_of}
use Rattle.csp_value.proofs.Copying.{copies_read}
use Rattle.csp_expression.proofs.types.ConstructorFieldsTryCopy.try_copy.Goals as goal

pub returns : goal.returns
returns g c =
    let S : List (FieldSet g.row.A.Denot) → Type 0 = λ ss. AreCopies (λ x y. members_of y.values ≡ members_of x.values) ss c.in_ok-sets.sets.items in
    copies_read (λ (s : FieldSet g.row.A.Denot). members_of s.values) values_list c.args.self.now.sets.items c.in_ok-sets.sets.items (subst S c.as_slice.ensures.value c.in_ok-sets.ensures)
