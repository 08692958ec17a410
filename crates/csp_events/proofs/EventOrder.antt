-- The derived order of events, sets of events and renaming pairs is the order of what they stand for.
use denote.RattleType
use mir.Syntax
use denote.Enum.Declared
use denote.Hole.Holds
use Rattle.std.proofs.Common.{◌≡◌, ◌<◌, ◌≤◌, List, refl, sym, ◌∙◌, ap, ap₂, subst, arith, inl, inr}
use Rattle.std.specs.Prelude.{⊤}
use Rattle.std.specs.declared.alloc.Allocator as allocator
use Rattle.std.specs.declared.boxed.Box.{Box}
use Rattle.std.specs.declared.vec.Vec.{Vec}
use Rattle.std.specs.declared.cmp.Ordering.{Ordering}
use Rattle.std.specs.Ordering.{nat_cmp, ordering_then}
use Rattle.std.specs.Cmp.Lexicographic.{slice_cmp}
use Rattle.theory_syntax.specs.Process as pure
use Rattle.theory_syntax.specs.Order.{event_expression_cmp, event_set_cmp, event_set_place, pair_cmp}
use Rattle.theory_syntax.specs.declared.event_set_operator.EventSetOperator.{EventSetOperator}
use Rattle.theory_syntax.specs.declared.event_set_operator.EventSetOperator.TheVariants as operator
use Rattle.theory_syntax.specs.contracts.event_set_operator.EventSetOperatorOrd.TheImpl as operator_impl
use Rattle.theory_syntax.specs.Operators.{combined}
use Rattle.csp_events.specs.declared.event_expression.EventExpression.{EventExpression}
use Rattle.csp_events.specs.declared.renaming_pair.RenamingPair.{RenamingPair}
use Rattle.csp_events.specs.declared.event_set.EventSet.{EventSet, roll-EventSet, map-EventSet, ind-EventSet}
use Rattle.csp_events.specs.declared.event_set.EventSet.TheVariants as views
use Rattle.csp_events.specs.declared.event_set.EventSet.TheOpen as layer
use Rattle.csp_events.specs.declared.event_set.EventSet.TheBlock as block
use Rattle.csp_events.specs.declared.event_set.EventSet.TheFolds as folds
use Rattle.csp_events.specs.contracts.event_expression.EventExpressionOrd.TheImpl as event_impl
use Rattle.csp_events.specs.contracts.renaming_pair.RenamingPairOrd.TheImpl as pair_impl
use Rattle.csp_events.specs.contracts.event_set.EventSetOrd.TheImpl as impl
use Rattle.csp_events.specs.contracts.event_set.EventSetOrd.TheImpl.Laws as laws
use Rattle.csp_events.specs.contracts.event_set.EventSet as contract
use Rattle.csp_events.specs.Events.{event_expression_of, event_expressions_of, event_set_of, renaming_pair_of, renaming_pairs_of}
use Rattle.csp_events.proofs.Apart.{event_sets}
use Rattle.csp_events.proofs.EventForms.{of_enumeration, of_productions, of_combined}
use Rattle.csp_expression.proofs.ExpressionOrder.{lists_ordered as expressions_ordered}
use Rattle.csp_value.proofs.Slices.{slices_ordered}
use Rattle.csp_expression.proofs.Variants.{Ranks, first_or, no_more, none, one_more, one_at, either, either_holds}

-- ---- operators

abbrev operator_cmp : EventSetOperator → EventSetOperator → Ordering
operator_cmp = operator_impl.ghosts.cmp

combined_from : (op : EventSetOperator) (a b : pure.EventSet) → 2 ≤ event_set_place (combined op a b)
combined_from operator.Union a b = omega arith
combined_from operator.Intersection a b = omega arith
combined_from operator.Difference a b = omega arith

combined_below : (op : EventSetOperator) (a b : pure.EventSet) → event_set_place (combined op a b) < 5
combined_below operator.Union a b = omega arith
combined_below operator.Intersection a b = omega arith
combined_below operator.Difference a b = omega arith

combined_ordered : (op oq : EventSetOperator) (a b c d : pure.EventSet) → ordering_then (operator_cmp op oq) (ordering_then (event_set_cmp a c) (event_set_cmp b d)) ≡ event_set_cmp (combined op a b) (combined oq c d)
combined_ordered operator.Union operator.Union a b c d = refl
combined_ordered operator.Intersection operator.Intersection a b c d = refl
combined_ordered operator.Difference operator.Difference a b c d = refl
combined_ordered _ _ a b c d = refl

module _ (R : RattleType.RattleType) (A : allocator.Ghosts R.Denot) (ad dd : Syntax.Dict) where
  -- ---- events and pairs

  abbrev pub event_order : EventExpression R.Denot → EventExpression R.Denot → Ordering
  event_order = (event_impl.ghosts R A ad dd).cmp

  event_ordered : (e f : EventExpression R.Denot) → event_order e f ≡ event_expression_cmp (event_expression_of e) (event_expression_of f)
  event_ordered e f = ap (ordering_then (nat_cmp e.channel.0 f.channel.0)) (expressions_ordered R A ad dd e.fields.items f.fields.items)

  events_ordered : (es fs : List (EventExpression R.Denot)) → slice_cmp event_order es fs ≡ slice_cmp event_expression_cmp (event_expressions_of es) (event_expressions_of fs)
  events_ordered = slices_ordered event_order event_expression_cmp event_expression_of event_ordered

  abbrev pub pair_order : RenamingPair R.Denot → RenamingPair R.Denot → Ordering
  pair_order = (pair_impl.ghosts R A ad dd).cmp

  pair_ordered : (r s : RenamingPair R.Denot) → pair_order r s ≡ pair_cmp (renaming_pair_of r) (renaming_pair_of s)
  pair_ordered r s = ap₂ ordering_then (event_ordered r.from s.from) (event_ordered r.to s.to)

  pub pairs_ordered : (rs ss : List (RenamingPair R.Denot)) → slice_cmp pair_order rs ss ≡ slice_cmp pair_cmp (renaming_pairs_of rs) (renaming_pairs_of ss)
  pairs_ordered = slices_ordered pair_order pair_cmp renaming_pair_of pair_ordered

  -- ---- sets and their parts

  abbrev pub cmp : EventSet R.Denot → EventSet R.Denot → Ordering
  cmp = (impl.ghosts R A ad dd).cmp

  abbrev Agrees : EventSet R.Denot → EventSet R.Denot → Type 0
  Agrees a b = cmp a b ≡ event_set_cmp (event_set_of a) (event_set_of b)

  abbrev IsOrdered : EventSet R.Denot → Type 0
  IsOrdered a = (b : EventSet R.Denot) → Agrees a b

  abbrev Parts : Type 0
  Parts = Declared.Choice (contract.the_parts R A)

  abbrev make : Parts → EventSet R.Denot
  make = contract.the_make R A

  beta : (v : Parts) → contract.as_values R A (make v) ≡ v
  beta = contract.the_beta R A

  abbrev Operand : Type 0
  Operand = Box (EventSet R.Denot) R.Denot

  abbrev Listed : Type 0
  Listed = Vec (EventExpression R.Denot) R.Denot × Unit {0}

  abbrev Combination : Type 0
  Combination = EventSetOperator × (Operand × (Operand × Unit {0}))

  abbrev listed_cmp : Listed → Listed → Ordering
  listed_cmp x y = slice_cmp event_order x.0.items y.0.items

  abbrev combination_cmp : Combination → Combination → Ordering
  combination_cmp x y = ordering_then (operator_cmp x.0 y.0) (ordering_then (cmp x.1.0.value y.1.0.value) (cmp x.1.1.0.value y.1.1.0.value))

  abbrev enumeration : Listed → pure.EventSet
  enumeration x = pure.Enumeration (event_expressions_of x.0.items)

  abbrev productions : Listed → pure.EventSet
  productions x = pure.Productions (event_expressions_of x.0.items)

  abbrev combination : Combination → pure.EventSet
  combination x = combined x.0 (event_set_of x.1.0.value) (event_set_of x.1.1.0.value)

  abbrev OfAny : Listed → Type 0
  OfAny x = ⊤

  abbrev OfOrdered : Combination → Type 0
  OfOrdered x = IsOrdered x.1.0.value × IsOrdered x.1.1.0.value

  abbrev derived : Parts → Parts → Ordering
  derived = first_or listed_cmp (first_or listed_cmp (first_or combination_cmp no_more))

  abbrev meaning : Parts → pure.EventSet
  meaning = either enumeration (either productions (either combination (λ v. absurd v)))

  abbrev OrderedParts : Parts → Type 0
  OrderedParts = either_holds OfAny (either_holds OfAny (either_holds OfOrdered (λ v. ⊥)))

  ranks : Ranks event_sets derived meaning OrderedParts 0
  ranks =
      one_at event_sets listed_cmp enumeration OfAny 0 (λ x. refl) (λ x y h. events_ordered x.0.items y.0.items)
      (one_at event_sets listed_cmp productions OfAny 1 (λ x. refl) (λ x y h. events_ordered x.0.items y.0.items)
      (one_more event_sets combination_cmp combination OfOrdered 2 5 (λ x. combined_from x.0 (event_set_of x.1.0.value) (event_set_of x.1.1.0.value)) (λ x. combined_below x.0 (event_set_of x.1.0.value) (event_set_of x.1.1.0.value)) (omega arith)
      (λ x y h.
      ap (ordering_then (operator_cmp x.0 y.0)) (ap₂ ordering_then (h.0 y.1.0.value) (h.1 y.1.1.0.value))
      ∙ combined_ordered x.0 y.0 (event_set_of x.1.0.value) (event_set_of x.1.1.0.value) (event_set_of y.1.0.value) (event_set_of y.1.1.0.value))
      (none event_sets 5)))

  stands : (v : Parts) → event_set_of (make v) ≡ meaning v
  stands v =
      elim v as (λ v. event_set_of (make v) ≡ meaning v) [
        | inl w ↦ of_enumeration R.Denot w.0
        | inr (inl w) ↦ of_productions R.Denot w.0
        | inr (inr (inl w)) ↦ of_combined R.Denot w.0 w.1.0 w.1.1.0
        | inr (inr (inr w)) ↦ absurd w
      ]

  unfolds : (v w : Parts) → cmp (make v) (make w) ≡ derived v w
  unfolds v w = laws.is R A ad dd (make v) (make w) ∙ rw (beta v, beta w) refl

  of_parts : (v : Parts) → OrderedParts v → IsOrdered (make v)
  of_parts v parts b =
      subst (Agrees (make v)) (contract.the_eta R A b)
      (let w = contract.as_values R A b in unfolds v w ∙ ranks.ordered v w parts ∙ sym (ap₂ event_set_cmp (stands v) (stands w)))

  -- ---- all together

  -- a set whose parts are ordered
  abbrev Part : Type 0
  Part = Holds.Such (block.the_family R.Denot) (folds.claims R.Denot IsOrdered) block.member-EventSet

  abbrev Layer : Type 0
  Layer = layer.EventSet-F R.Denot (EventSet R.Denot)

  abbrev IsOrderedLayer : Layer → Type 0
  IsOrderedLayer x = IsOrdered (roll-EventSet R.Denot x)

  step : (x : Layer) (y : layer.EventSet-F R.Denot Part) → map-EventSet R.Denot Part (EventSet R.Denot) (λ e. e.0) y ≡ x → IsOrderedLayer x
  step x (layer.Enumeration es) is = subst IsOrderedLayer is (subst IsOrdered (sym (views.rolls-Enumeration es)) (of_parts (inl (es, tt)) tt))
  step x (layer.Productions es) is = subst IsOrderedLayer is (subst IsOrdered (sym (views.rolls-Productions es)) (of_parts (inr (inl (es, tt))) tt))
  step x (layer.Combine op a b) is = subst IsOrderedLayer is (subst IsOrdered (sym (views.rolls-Combine op _ _)) (of_parts (inr (inr (inl (op, (_, (_, tt)))))) (a.value.1, b.value.1)))

  pub ordered : (a : EventSet R.Denot) → IsOrdered a
  ordered = ind-EventSet R.Denot IsOrdered step
