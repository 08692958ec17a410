-- The derived order of fields is the order of what they stand for.
use denote.RattleType
use mir.Syntax
use Rattle.std.proofs.Common.{◌≡◌, List, [], ◌∷◌, refl, ap, ap₂}
use Rattle.std.specs.declared.alloc.Allocator as allocator
use Rattle.std.specs.declared.cmp.Ordering.{Ordering}
use Rattle.std.specs.Ordering.{nat_cmp, ordering_then}
use Rattle.std.specs.Cmp.Lexicographic.{slice_cmp}
use Rattle.theory_syntax.specs.Order.{field_cmp}
use Rattle.csp_term.specs.declared.field.Field.{Field}
use Rattle.csp_term.specs.declared.field.Field.TheVariants as variant
use Rattle.csp_term.specs.contracts.field.FieldOrd.TheImpl as impl
use Rattle.csp_term.specs.Field.{field_of, fields_of}
use Rattle.csp_expression.proofs.ExpressionOrder.{ordered}

module _ (R : RattleType.RattleType) (A : allocator.Ghosts R.Denot) (ad dd : Syntax.Dict) where
  abbrev pub field_order : Field R.Denot → Field R.Denot → Ordering
  field_order = (impl.ghosts R A ad dd).cmp

  pub field_ordered : (f g : Field R.Denot) → field_order f g ≡ field_cmp (field_of f) (field_of g)
  field_ordered (variant.Given e) (variant.Given e') = ordered R A ad dd e e'
  field_ordered (variant.Given e) (variant.Input n') = refl
  field_ordered (variant.Given e) (variant.InputFrom n' e') = refl
  field_ordered (variant.Input n) (variant.Given e') = refl
  field_ordered (variant.Input n) (variant.Input n') = refl
  field_ordered (variant.Input n) (variant.InputFrom n' e') = refl
  field_ordered (variant.InputFrom n e) (variant.Given e') = refl
  field_ordered (variant.InputFrom n e) (variant.Input n') = refl
  field_ordered (variant.InputFrom n e) (variant.InputFrom n' e') = ap (ordering_then (nat_cmp n.0 n'.0)) (ordered R A ad dd e e')

  pub fields_ordered : (fs gs : List (Field R.Denot)) → slice_cmp field_order fs gs ≡ slice_cmp field_cmp (fields_of fs) (fields_of gs)
  fields_ordered [] [] = refl
  fields_ordered [] (g ∷ gs) = refl
  fields_ordered (f ∷ fs) [] = refl
  fields_ordered (f ∷ fs) (g ∷ gs) = ap₂ ordering_then (field_ordered f g) (fields_ordered fs gs)
