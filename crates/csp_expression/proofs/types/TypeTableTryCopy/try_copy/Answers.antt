-- The datatypes are the same, and each set and the fields of each constructor are copied.
use Rattle.std.proofs.Common.{◌≡◌, List, map, ◌∙◌, ap, subst}
use Rattle.theory_syntax.specs.Value.{values_list}
use Rattle.csp_value.specs.declared.set.SetOf.{SetOf}
use Rattle.csp_value.specs.Copies.{AreCopies}
use Rattle.csp_value.specs.Fields.{sets_of}
use Rattle.csp_value.specs.Value.{members_of}
use Rattle.csp_expression.specs.declared.types.ConstructorFields.{ConstructorFields}
use Rattle.csp_expression.specs.Evaluation.{constructors_of, members_listed}
use Rattle.csp_value.proofs.Copying.{copies_read, copies_same}
use Rattle.csp_expression.proofs.types.TypeTableTryCopy.try_copy.Goals as goal

pub returns : goal.returns
returns g c =
    let table = c.args.self.now in
    let types : map constructors_of c.in_ok-from_slice.field-0.items ≡ map constructors_of table.datatypes.items = ap (map constructors_of) (c.in_ok-from_slice.ensures.items ∙ c.as_slice.ensures.value) in
    let S : List (SetOf g.row.A.Denot) → Type 0 = λ ss. AreCopies (λ x y. members_of y ≡ members_of x) ss c.in_ok-copy_all.field-0.items in
    let F : List (ConstructorFields g.row.A.Denot) → Type 0 = λ fs. AreCopies (λ x y. sets_of y.sets.items ≡ sets_of x.sets.items) fs c.in_ok-copy_all-2.field-0.items in
    let sets : map members_listed c.in_ok-copy_all.field-0.items ≡ map members_listed table.nametypes.items =
    copies_read members_of values_list table.nametypes.items c.in_ok-copy_all.field-0.items (subst S c.as_slice-2.ensures.value c.in_ok-copy_all.ensures) in
    let fields : map (λ f. sets_of f.sets.items) c.in_ok-copy_all-2.field-0.items ≡ map (λ f. sets_of f.sets.items) table.constructors.items =
    copies_same (λ (f : ConstructorFields g.row.A.Denot). sets_of f.sets.items) table.constructors.items c.in_ok-copy_all-2.field-0.items (subst F c.as_slice-3.ensures.value c.in_ok-copy_all-2.ensures)
    in λ i. record { datatypes = types i; nametypes = sets i; constructors = fields i }
