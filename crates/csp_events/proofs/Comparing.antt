-- Lists of field sets are compared as those that they stand for.
use denote.RattleType
use mir.Syntax
use lib.Pointwise.{pointwise}
use Rattle.std.proofs.Common.{◌≡◌, Bool, List, sym, ap, ◌∙◌}
use Rattle.std.proofs.lemmas.Cmp.{lists_total, tied_itself}
use Rattle.std.specs.declared.alloc.Allocator as allocator
use Rattle.std.specs.Cmp.Lexicographic.{slice_cmp}
use Rattle.std.specs.FinMap.{slice_cmp-IsAntisymmetric}
use Rattle.std.specs.Ordering.{is_eq}
use Rattle.std.specs.Cmp.{both_ways}
use Rattle.theory_syntax.specs.Value as pure
use Rattle.theory_semantics.specs.Meaning.Events.{same_sets}
use Rattle.theory_syntax.proofs.Equalities.{is_eq-Equal, value_same}
use Rattle.theory_syntax.proofs.Orders.{value_total}
use Rattle.csp_value.specs.declared.field_set.FieldSet.{FieldSet}
use Rattle.csp_value.specs.contracts.field_set.FieldSetPartialEq.TheImpl as field_impl
use Rattle.csp_value.specs.Value.{members_of}
use Rattle.csp_value.proofs.Equality.{set_tells}
use Rattle.csp_value.proofs.Sameness.{Tells, lists_tell}
use Rattle.csp_value.proofs.Forms.{unlisted}
use Rattle.csp_value.specs.Fields.{field_values, sets_of}

module _ (R : RattleType.RattleType) (A : allocator.Ghosts R.Denot) (ad dd : Syntax.Dict) where
  abbrev field_eq : FieldSet R.Denot → FieldSet R.Denot → Bool
  field_eq = (field_impl.ghosts R A ad dd).eq

  field_tells : Tells field_eq (field_values {A = R.Denot})
  field_tells = record {
    sound = λ x y e. ap pure.values_list ((set_tells R A ad dd).sound x.values y.values e);
    complete = λ x y e. (set_tells R A ad dd).complete x.values y.values (sym (unlisted (members_of x.values)) ∙ ap pure.to_values e ∙ unlisted (members_of y.values));
  }

  pub sets_compared : (xs ys : List (FieldSet R.Denot)) → pointwise field_eq xs ys ≡ same_sets (sets_of xs) (sets_of ys)
  sets_compared xs ys =
      let told = lists_tell field_eq field_values field_tells in
      let order = slice_cmp (slice_cmp pure.value_cmp) in
      both_ways (pointwise field_eq xs ys) (same_sets (sets_of xs) (sets_of ys))
      (λ e. ap is_eq (ap (order (sets_of xs)) (sym (told.sound xs ys e)) ∙ tied_itself (lists_total (lists_total value_total)) (sets_of xs)))
      (λ e. told.complete xs ys (slice_cmp-IsAntisymmetric (slice_cmp-IsAntisymmetric value_same) (sets_of xs) (sets_of ys) (is_eq-Equal (order (sets_of xs) (sets_of ys)) e)))
