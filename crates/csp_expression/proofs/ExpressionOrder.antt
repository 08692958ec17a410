-- The derived order of expressions is the order of what they stand for.
use denote.RattleType
use mir.Syntax
use denote.Enum.Declared
use denote.Hole.Holds
use Rattle.std.proofs.Common.{◌≡◌, refl, sym, ◌∙◌, ap, ap₂, subst, inl, inr, List, [], ◌∷◌, map}
use Rattle.std.specs.declared.alloc.Allocator as allocator
use Rattle.std.specs.declared.boxed.Box.{Box}
use Rattle.std.specs.declared.vec.Vec.{Vec}
use Rattle.std.specs.declared.cmp.Ordering.{Ordering}
use Rattle.std.specs.Ordering.{nat_cmp, ordering_then}
use Rattle.std.specs.Cmp.Lexicographic.{slice_cmp}
use Rattle.theory_syntax.specs.Expression as pure
use Rattle.theory_syntax.specs.Order.{expression_cmp, expressions_cmp}
use Rattle.theory_syntax.specs.declared.operator.UnaryOperator.{UnaryOperator}
use Rattle.theory_syntax.specs.declared.operator.BinaryOperator.{BinaryOperator}
use Rattle.theory_syntax.specs.Operators.{binary_of, unary_of}
use Rattle.theory_syntax.specs.contracts.operator.UnaryOperatorOrd.TheImpl as unary_impl
use Rattle.theory_syntax.specs.contracts.operator.BinaryOperatorOrd.TheImpl as binary_impl
use Rattle.csp_value.specs.declared.name.ConId.{ConId}
use Rattle.csp_value.specs.declared.value.Value.{Value}
use Rattle.csp_value.proofs.ValueOrder.{cmp as value_order, ordered as values_ordered}
use Rattle.csp_expression.specs.declared.name.Name.{Name}
use Rattle.csp_expression.specs.declared.name.DatatypeId.{DatatypeId}
use Rattle.csp_expression.specs.declared.name.NametypeId.{NametypeId}
use Rattle.csp_expression.specs.declared.expr.Expr.{Expr, roll-Expr, map-Expr, ind-Expr}
use Rattle.csp_expression.specs.declared.expr.Expr.TheVariants as views
use Rattle.csp_expression.specs.declared.expr.Expr.TheOpen as layer
use Rattle.csp_expression.specs.declared.expr.Expr.TheBlock as block
use Rattle.csp_expression.specs.declared.expr.Expr.TheFolds as folds
use Rattle.csp_expression.specs.contracts.expr.ExprOrd.TheImpl as impl
use Rattle.csp_expression.specs.contracts.expr.ExprOrd.TheImpl.Laws as laws
use Rattle.csp_expression.specs.contracts.expr.Expr as contract
use Rattle.csp_expression.specs.Expression.{expression_of, expressions_of}
use Rattle.csp_expression.proofs.ExpressionForms.{of_literal, of_name, of_apply, of_combine, of_sequence, of_set, of_range, of_booleans, of_datatype, of_nametype, of_constructor}
use Rattle.csp_expression.proofs.OperatorOrder.{unary_ordered, binary_ordered}
use Rattle.std.specs.Prelude.{⊤}
use Rattle.std.specs.declared.cmp.Ordering.TheVariants.{Equal}
use Rattle.csp_expression.proofs.Variants.{Ranks, first_or, no_more, none, one_at, either, either_holds}
use Rattle.csp_expression.proofs.Apart.{expressions}
use Rattle.csp_value.specs.Value.{value_of}

module _ (R : RattleType.RattleType) (A : allocator.Ghosts R.Denot) (ad dd : Syntax.Dict) where
  abbrev pub cmp : Expr R.Denot → Expr R.Denot → Ordering
  cmp = (impl.ghosts R A ad dd).cmp

  abbrev Agrees : Expr R.Denot → Expr R.Denot → Type 0
  Agrees a b = cmp a b ≡ expression_cmp (expression_of a) (expression_of b)

  abbrev IsOrdered : Expr R.Denot → Type 0
  IsOrdered a = (b : Expr R.Denot) → Agrees a b

  abbrev AreOrdered : List (Expr R.Denot) → Type 0
  AreOrdered es = (fs : List (Expr R.Denot)) → slice_cmp cmp es fs ≡ expressions_cmp (pure.to_expressions (expressions_of es)) (pure.to_expressions (expressions_of fs))

  abbrev Operand : Type 0
  Operand = Box (Expr R.Denot) R.Denot

  abbrev Operands : Type 0
  Operands = Vec (Expr R.Denot) R.Denot

  abbrev Parts : Type 0
  Parts = Declared.Choice (contract.the_parts R A)

  abbrev make : Parts → Expr R.Denot
  make = contract.the_make R A

  -- ---- the parts of each form, their order, and what they stand for

  abbrev Literal : Type 0
  Literal = Value R.Denot × Unit {0}

  abbrev literal_cmp : Literal → Literal → Ordering
  literal_cmp x y = value_order R A ad ad x.0 y.0

  abbrev literal : Literal → pure.Expression
  literal x = pure.Literal (value_of x.0)

  abbrev OfLiteral : Literal → Type 0
  OfLiteral x = ⊤

  literal_agrees : (x y : Literal) → OfLiteral x → literal_cmp x y ≡ expression_cmp (literal x) (literal y)
  literal_agrees x y h = values_ordered R A ad ad x.0 y.0

  abbrev Named : Type 0
  Named = Name × Unit {0}

  abbrev name_cmp : Named → Named → Ordering
  name_cmp x y = nat_cmp x.0.0 y.0.0

  abbrev name : Named → pure.Expression
  name x = pure.Name x.0.0

  abbrev OfNamed : Named → Type 0
  OfNamed x = ⊤

  name_agrees : (x y : Named) → OfNamed x → name_cmp x y ≡ expression_cmp (name x) (name y)
  name_agrees x y h = refl

  abbrev Applied : Type 0
  Applied = UnaryOperator × (Operand × Unit {0})

  abbrev apply_cmp : Applied → Applied → Ordering
  apply_cmp x y = ordering_then (unary_impl.ghosts.cmp x.0 y.0) (cmp x.1.0.value y.1.0.value)

  abbrev apply : Applied → pure.Expression
  apply x = pure.Apply (unary_of x.0) (expression_of x.1.0.value)

  abbrev OfApplied : Applied → Type 0
  OfApplied x = IsOrdered x.1.0.value

  apply_agrees : (x y : Applied) → OfApplied x → apply_cmp x y ≡ expression_cmp (apply x) (apply y)
  apply_agrees x y h = ap₂ ordering_then (unary_ordered x.0 y.0) (h y.1.0.value)

  abbrev Combined : Type 0
  Combined = BinaryOperator × (Operand × (Operand × Unit {0}))

  abbrev combine_cmp : Combined → Combined → Ordering
  combine_cmp x y = ordering_then (binary_impl.ghosts.cmp x.0 y.0) (ordering_then (cmp x.1.0.value y.1.0.value) (cmp x.1.1.0.value y.1.1.0.value))

  abbrev combine : Combined → pure.Expression
  combine x = pure.Combine (binary_of x.0) (expression_of x.1.0.value) (expression_of x.1.1.0.value)

  abbrev OfCombined : Combined → Type 0
  OfCombined x = IsOrdered x.1.0.value × IsOrdered x.1.1.0.value

  combine_agrees : (x y : Combined) → OfCombined x → combine_cmp x y ≡ expression_cmp (combine x) (combine y)
  combine_agrees x y h = ap₂ ordering_then (binary_ordered x.0 y.0) (ap₂ ordering_then (h.0 y.1.0.value) (h.1 y.1.1.0.value))

  abbrev Sequenced : Type 0
  Sequenced = Operands × Unit {0}

  abbrev sequence_cmp : Sequenced → Sequenced → Ordering
  sequence_cmp x y = slice_cmp cmp x.0.items y.0.items

  abbrev sequence : Sequenced → pure.Expression
  sequence x = pure.SequenceOf (pure.to_expressions (expressions_of x.0.items))

  abbrev OfSequenced : Sequenced → Type 0
  OfSequenced x = AreOrdered x.0.items

  sequence_agrees : (x y : Sequenced) → OfSequenced x → sequence_cmp x y ≡ expression_cmp (sequence x) (sequence y)
  sequence_agrees x y h = h y.0.items

  abbrev Collected : Type 0
  Collected = Operands × Unit {0}

  abbrev set_cmp : Collected → Collected → Ordering
  set_cmp x y = slice_cmp cmp x.0.items y.0.items

  abbrev set : Collected → pure.Expression
  set x = pure.SetOf (pure.to_expressions (expressions_of x.0.items))

  abbrev OfCollected : Collected → Type 0
  OfCollected x = AreOrdered x.0.items

  set_agrees : (x y : Collected) → OfCollected x → set_cmp x y ≡ expression_cmp (set x) (set y)
  set_agrees x y h = h y.0.items

  abbrev Ranged : Type 0
  Ranged = Operand × (Operand × Unit {0})

  abbrev range_cmp : Ranged → Ranged → Ordering
  range_cmp x y = ordering_then (cmp x.0.value y.0.value) (cmp x.1.0.value y.1.0.value)

  abbrev range : Ranged → pure.Expression
  range x = pure.Range (expression_of x.0.value) (expression_of x.1.0.value)

  abbrev OfRanged : Ranged → Type 0
  OfRanged x = IsOrdered x.0.value × IsOrdered x.1.0.value

  range_agrees : (x y : Ranged) → OfRanged x → range_cmp x y ≡ expression_cmp (range x) (range y)
  range_agrees x y h = ap₂ ordering_then (h.0 y.0.value) (h.1 y.1.0.value)

  abbrev Nothing : Type 0
  Nothing = Unit {0}

  abbrev booleans_cmp : Nothing → Nothing → Ordering
  booleans_cmp x y = Equal

  abbrev booleans : Nothing → pure.Expression
  booleans x = pure.Booleans

  abbrev OfNothing : Nothing → Type 0
  OfNothing x = ⊤

  booleans_agrees : (x y : Nothing) → OfNothing x → booleans_cmp x y ≡ expression_cmp (booleans x) (booleans y)
  booleans_agrees x y h = refl

  abbrev DatatypeNamed : Type 0
  DatatypeNamed = DatatypeId × Unit {0}

  abbrev datatype_cmp : DatatypeNamed → DatatypeNamed → Ordering
  datatype_cmp x y = nat_cmp x.0.0 y.0.0

  abbrev datatype : DatatypeNamed → pure.Expression
  datatype x = pure.Datatype x.0.0

  abbrev OfDatatypeNamed : DatatypeNamed → Type 0
  OfDatatypeNamed x = ⊤

  datatype_agrees : (x y : DatatypeNamed) → OfDatatypeNamed x → datatype_cmp x y ≡ expression_cmp (datatype x) (datatype y)
  datatype_agrees x y h = refl

  abbrev NametypeNamed : Type 0
  NametypeNamed = NametypeId × Unit {0}

  abbrev nametype_cmp : NametypeNamed → NametypeNamed → Ordering
  nametype_cmp x y = nat_cmp x.0.0 y.0.0

  abbrev nametype : NametypeNamed → pure.Expression
  nametype x = pure.Nametype x.0.0

  abbrev OfNametypeNamed : NametypeNamed → Type 0
  OfNametypeNamed x = ⊤

  nametype_agrees : (x y : NametypeNamed) → OfNametypeNamed x → nametype_cmp x y ≡ expression_cmp (nametype x) (nametype y)
  nametype_agrees x y h = refl

  abbrev Constructed : Type 0
  Constructed = ConId × (Operands × Unit {0})

  abbrev constructor_cmp : Constructed → Constructed → Ordering
  constructor_cmp x y = ordering_then (nat_cmp x.0.0 y.0.0) (slice_cmp cmp x.1.0.items y.1.0.items)

  abbrev constructor : Constructed → pure.Expression
  constructor x = pure.ConstructorOf x.0.0 (pure.to_expressions (expressions_of x.1.0.items))

  abbrev OfConstructed : Constructed → Type 0
  OfConstructed x = AreOrdered x.1.0.items

  constructor_agrees : (x y : Constructed) → OfConstructed x → constructor_cmp x y ≡ expression_cmp (constructor x) (constructor y)
  constructor_agrees x y h = ap (ordering_then (nat_cmp x.0.0 y.0.0)) (h y.1.0.items)

  -- ---- all forms

  abbrev derived : Parts → Parts → Ordering
  derived = first_or literal_cmp (first_or name_cmp (first_or apply_cmp (first_or combine_cmp (first_or sequence_cmp (first_or set_cmp (first_or range_cmp (first_or booleans_cmp (first_or datatype_cmp (first_or nametype_cmp (first_or constructor_cmp no_more))))))))))

  abbrev meaning : Parts → pure.Expression
  meaning = either literal (either name (either apply (either combine (either sequence (either set (either range (either booleans (either datatype (either nametype (either constructor (λ v. absurd v)))))))))))

  abbrev OrderedParts : Parts → Type 0
  OrderedParts = either_holds OfLiteral (either_holds OfNamed (either_holds OfApplied (either_holds OfCombined (either_holds OfSequenced (either_holds OfCollected (either_holds OfRanged (either_holds OfNothing (either_holds OfDatatypeNamed (either_holds OfNametypeNamed (either_holds OfConstructed (λ v. ⊥)))))))))))

  ranks : Ranks expressions derived meaning OrderedParts 0
  ranks =
      one_at expressions literal_cmp literal OfLiteral 0 (λ x. refl) literal_agrees
      (one_at expressions name_cmp name OfNamed 1 (λ x. refl) name_agrees
      (one_at expressions apply_cmp apply OfApplied 2 (λ x. refl) apply_agrees
      (one_at expressions combine_cmp combine OfCombined 3 (λ x. refl) combine_agrees
      (one_at expressions sequence_cmp sequence OfSequenced 4 (λ x. refl) sequence_agrees
      (one_at expressions set_cmp set OfCollected 5 (λ x. refl) set_agrees
      (one_at expressions range_cmp range OfRanged 6 (λ x. refl) range_agrees
      (one_at expressions booleans_cmp booleans OfNothing 7 (λ x. refl) booleans_agrees
      (one_at expressions datatype_cmp datatype OfDatatypeNamed 8 (λ x. refl) datatype_agrees
      (one_at expressions nametype_cmp nametype OfNametypeNamed 9 (λ x. refl) nametype_agrees
      (one_at expressions constructor_cmp constructor OfConstructed 10 (λ x. refl) constructor_agrees
      (none expressions 11)))))))))))

  stands : (v : Parts) → expression_of (make v) ≡ meaning v
  stands v =
      elim v as (λ v. expression_of (make v) ≡ meaning v) [
        | inl w ↦ of_literal R.Denot w.0
        | inr (inl w) ↦ of_name R.Denot w.0
        | inr (inr (inl w)) ↦ of_apply R.Denot w.0 w.1.0
        | inr (inr (inr (inl w))) ↦ of_combine R.Denot w.0 w.1.0 w.1.1.0
        | inr (inr (inr (inr (inl w)))) ↦ of_sequence R.Denot w.0
        | inr (inr (inr (inr (inr (inl w))))) ↦ of_set R.Denot w.0
        | inr (inr (inr (inr (inr (inr (inl w)))))) ↦ of_range R.Denot w.0 w.1.0
        | inr (inr (inr (inr (inr (inr (inr (inl w))))))) ↦ of_booleans R.Denot
        | inr (inr (inr (inr (inr (inr (inr (inr (inl w)))))))) ↦ of_datatype R.Denot w.0
        | inr (inr (inr (inr (inr (inr (inr (inr (inr (inl w))))))))) ↦ of_nametype R.Denot w.0
        | inr (inr (inr (inr (inr (inr (inr (inr (inr (inr (inl w)))))))))) ↦ of_constructor R.Denot w.0 w.1.0
        | inr (inr (inr (inr (inr (inr (inr (inr (inr (inr (inr w)))))))))) ↦ absurd w
      ]

  unfolds : (v w : Parts) → cmp (make v) (make w) ≡ derived v w
  unfolds v w = laws.is R A ad dd (make v) (make w) ∙ ap₂ derived (contract.the_beta R A v) (contract.the_beta R A w)

  of_parts : (v : Parts) → OrderedParts v → IsOrdered (make v)
  of_parts v parts b =
      subst (Agrees (make v)) (contract.the_eta R A b)
      (let w = contract.as_values R A b in unfolds v w ∙ ranks.ordered v w parts ∙ sym (ap₂ expression_cmp (stands v) (stands w)))

  -- ---- all expressions together

  -- an expression whose parts are ordered
  abbrev Part : Type 0
  Part = Holds.Such (block.the_family R.Denot) (folds.claims R.Denot IsOrdered) block.member-Expr

  parts_ordered : (es : List Part) → AreOrdered (map (λ e. e.0) es)
  parts_ordered [] [] = refl
  parts_ordered [] (f ∷ fs) = refl
  parts_ordered (e ∷ es) [] = refl
  parts_ordered (e ∷ es) (f ∷ fs) = ap₂ ordering_then (e.1 f) (parts_ordered es fs)

  abbrev Layer : Type 0
  Layer = layer.Expr-F R.Denot (Expr R.Denot)

  abbrev IsOrderedLayer : Layer → Type 0
  IsOrderedLayer x = IsOrdered (roll-Expr R.Denot x)

  step : (x : Layer) (y : layer.Expr-F R.Denot Part) → map-Expr R.Denot Part (Expr R.Denot) (λ e. e.0) y ≡ x → IsOrderedLayer x
  step x (layer.Literal v) is = subst IsOrderedLayer is (subst IsOrdered (sym (views.rolls-Literal v)) (of_parts (inl (v, tt)) tt))
  step x (layer.Name n) is = subst IsOrderedLayer is (subst IsOrdered (sym (views.rolls-Name n)) (of_parts (inr (inl (n, tt))) tt))
  step x (layer.Apply op e) is = subst IsOrderedLayer is (subst IsOrdered (sym (views.rolls-Apply op _)) (of_parts (inr (inr (inl (op, (_, tt))))) e.value.1))
  step x (layer.Combine op e f) is = subst IsOrderedLayer is (subst IsOrdered (sym (views.rolls-Combine op _ _)) (of_parts (inr (inr (inr (inl (op, (_, (_, tt))))))) (e.value.1, f.value.1)))
  step x (layer.Sequence es) is = subst IsOrderedLayer is (subst IsOrdered (sym (views.rolls-Sequence _)) (of_parts (inr (inr (inr (inr (inl (_, tt)))))) (parts_ordered es.items)))
  step x (layer.Set es) is = subst IsOrderedLayer is (subst IsOrdered (sym (views.rolls-Set _)) (of_parts (inr (inr (inr (inr (inr (inl (_, tt))))))) (parts_ordered es.items)))
  step x (layer.Range e f) is = subst IsOrderedLayer is (subst IsOrdered (sym (views.rolls-Range _ _)) (of_parts (inr (inr (inr (inr (inr (inr (inl (_, (_, tt))))))))) (e.value.1, f.value.1)))
  step x layer.Booleans is = subst IsOrderedLayer is (subst IsOrdered (sym views.rolls-Booleans) (of_parts (inr (inr (inr (inr (inr (inr (inr (inl tt)))))))) tt))
  step x (layer.Datatype d) is = subst IsOrderedLayer is (subst IsOrdered (sym (views.rolls-Datatype d)) (of_parts (inr (inr (inr (inr (inr (inr (inr (inr (inl (d, tt)))))))))) tt))
  step x (layer.Nametype n) is = subst IsOrderedLayer is (subst IsOrdered (sym (views.rolls-Nametype n)) (of_parts (inr (inr (inr (inr (inr (inr (inr (inr (inr (inl (n, tt))))))))))) tt))
  step x (layer.Constructor k es) is = subst IsOrderedLayer is (subst IsOrdered (sym (views.rolls-Constructor k _)) (of_parts (inr (inr (inr (inr (inr (inr (inr (inr (inr (inr (inl (k, (_, tt))))))))))))) (parts_ordered es.items)))

  pub ordered : (a : Expr R.Denot) → IsOrdered a
  ordered = ind-Expr R.Denot IsOrdered step

  pub lists_ordered : (es : List (Expr R.Denot)) → AreOrdered es
  lists_ordered [] [] = refl
  lists_ordered [] (f ∷ fs) = refl
  lists_ordered (e ∷ es) [] = refl
  lists_ordered (e ∷ es) (f ∷ fs) = ap₂ ordering_then (ordered e f) (lists_ordered es fs)
