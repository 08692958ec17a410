-- The derived order of terms is the order of the processes that they stand for.
use denote.RattleType
use mir.Syntax
use denote.Enum.Declared
use denote.Hole.Holds
use Rattle.std.proofs.Common.{◌≡◌, refl, sym, ◌∙◌, ap, ap₂, subst, arith, inl, inr}
use Rattle.std.specs.Prelude.{⊤}
use Rattle.std.specs.declared.alloc.Allocator as allocator
use Rattle.std.specs.declared.vec.Vec.{Vec}
use Rattle.std.specs.declared.cmp.Ordering.{Ordering}
use Rattle.std.specs.declared.cmp.Ordering.TheVariants.{Equal}
use Rattle.std.specs.Ordering.{nat_cmp, ordering_then}
use Rattle.std.specs.Cmp.Lexicographic.{slice_cmp}
use Rattle.theory_syntax.specs.Expression.{to_expressions}
use Rattle.theory_syntax.specs.Process as pure
use Rattle.theory_syntax.specs.Order.{process_cmp}
use Rattle.theory_syntax.specs.declared.process_operator.ProcessOperator.{ProcessOperator}
use Rattle.theory_syntax.specs.declared.process_operator.ReplicatedOperator.{ReplicatedOperator}
use Rattle.theory_syntax.specs.Operators.{binary_process, replicated_process}
use Rattle.csp_value.specs.declared.name.ChannelId.{ChannelId}
use Rattle.csp_term.specs.declared.name.EquationId.{EquationId}
use Rattle.csp_expression.specs.declared.name.Name.{Name}
use Rattle.csp_events.specs.declared.event_set.EventSet.{EventSet}
use Rattle.csp_events.specs.declared.renaming_pair.RenamingPair.{RenamingPair}
use Rattle.csp_expression.specs.declared.expr.Expr.{Expr}
use Rattle.csp_term.specs.declared.field.Field.{Field}
use Rattle.csp_term.specs.declared.term.Term.{Term, out-Term, roll-Term, out-roll-Term}
use Rattle.csp_term.specs.declared.term.TermForm.{TermForm, roll-TermForm}
use Rattle.csp_term.specs.declared.term.TermForm.TheFolds.{map-Term, map-TermForm, ind-Term, claims}
use Rattle.csp_term.specs.declared.term.TermForm.TheVariants as views
use Rattle.csp_term.specs.declared.term.TermForm.TheOpen as layer
use Rattle.csp_term.specs.declared.term.TermForm.TheBlock as block
use Rattle.csp_term.specs.contracts.term.TermOrd.TheImpl as impl
use Rattle.csp_term.specs.contracts.term.TermOrd.TheImpl.Laws as term_laws
use Rattle.csp_term.specs.contracts.term.TermFormOrd.TheImpl as form_impl
use Rattle.csp_term.specs.contracts.term.TermFormOrd.TheImpl.Laws as laws
use Rattle.csp_term.specs.contracts.term.TermForm as contract
use Rattle.csp_events.specs.Events.{event_set_of, renaming_pairs_of}
use Rattle.csp_expression.specs.Expression.{expression_of, expressions_of}
use Rattle.csp_term.specs.Field.{fields_of}
use Rattle.csp_term.specs.Term.{process_of, process_of_form}
use Rattle.csp_events.proofs.Apart.{processes}
use Rattle.csp_events.proofs.EventOrder.{cmp as event_set_order, ordered as event_set_ordered, pair_order, pairs_ordered}
use Rattle.csp_expression.proofs.ExpressionOrder.{cmp as expression_order, ordered as expression_ordered, lists_ordered as expressions_ordered}
use Rattle.csp_term.proofs.FieldOrder.{field_order, fields_ordered}
use Rattle.csp_term.proofs.Forms.{of_form, of_stop, of_skip, of_omega_term, of_call, of_prefix, of_guard, of_conditional, of_binary, of_generalised, of_alphabetised, of_hiding, of_renaming, of_replicated, of_sliding}
use Rattle.csp_term.proofs.OperatorForms.{binary_below, binary_cmp, binary_from, binary_ordered, replicated_below, replicated_cmp, replicated_from, replicated_ordered}
use Rattle.csp_expression.proofs.Variants.{Ranks, first_or, no_more, none, one_more, one_at, either, either_holds}

module _ (R : RattleType.RattleType) (A : allocator.Ghosts R.Denot) (ad dd : Syntax.Dict) where
  abbrev pub cmp : Term R.Denot → Term R.Denot → Ordering
  cmp = (impl.ghosts R A ad dd).cmp

  abbrev pub form_cmp : TermForm R.Denot → TermForm R.Denot → Ordering
  form_cmp = (form_impl.ghosts R A ad dd).cmp

  abbrev IsOrdered : Term R.Denot → Type 0
  IsOrdered a = (b : Term R.Denot) → cmp a b ≡ process_cmp (process_of a) (process_of b)

  abbrev Agrees : TermForm R.Denot → TermForm R.Denot → Type 0
  Agrees a b = form_cmp a b ≡ process_cmp (process_of_form a) (process_of_form b)

  abbrev IsOrderedForm : TermForm R.Denot → Type 0
  IsOrderedForm a = (b : TermForm R.Denot) → Agrees a b

  abbrev Parts : Type 0
  Parts = Declared.Choice (contract.the_parts R A)

  abbrev make : Parts → TermForm R.Denot
  make = contract.the_make R A

  -- ---- the parts of each form, their order, and what they stand for

  abbrev expression_cmp : Expr R.Denot → Expr R.Denot → Ordering
  expression_cmp = expression_order R A ad dd

  abbrev event_set_cmp : EventSet R.Denot → EventSet R.Denot → Ordering
  event_set_cmp = event_set_order R A ad dd

  abbrev Nothing : Type 0
  Nothing = Unit {0}

  abbrev nothing_cmp : Nothing → Nothing → Ordering
  nothing_cmp x y = Equal

  abbrev stop : Nothing → pure.Process
  stop x = pure.Stop

  abbrev skip : Nothing → pure.Process
  skip x = pure.Skip

  abbrev omega_term : Nothing → pure.Process
  omega_term x = pure.Omega

  abbrev OfNothing : Nothing → Type 0
  OfNothing x = ⊤

  abbrev Call : Type 0
  Call = EquationId × (Vec (Expr R.Denot) R.Denot × Unit {0})

  abbrev call_cmp : Call → Call → Ordering
  call_cmp x y = ordering_then (nat_cmp x.0.0 y.0.0) (slice_cmp expression_cmp x.1.0.items y.1.0.items)

  abbrev call : Call → pure.Process
  call x = pure.Call x.0.0 (to_expressions (expressions_of x.1.0.items))

  abbrev OfCall : Call → Type 0
  OfCall x = ⊤

  call_agrees : (x y : Call) → OfCall x → call_cmp x y ≡ process_cmp (call x) (call y)
  call_agrees x y h =
      ap (ordering_then (nat_cmp x.0.0 y.0.0)) (expressions_ordered R A ad dd x.1.0.items y.1.0.items)

  abbrev Prefix : Type 0
  Prefix = ChannelId × (Vec (Field R.Denot) R.Denot × (Term R.Denot × Unit {0}))

  abbrev prefix_cmp : Prefix → Prefix → Ordering
  prefix_cmp x y = ordering_then (nat_cmp x.0.0 y.0.0) (ordering_then (slice_cmp (field_order R A ad dd) x.1.0.items y.1.0.items) (cmp x.1.1.0 y.1.1.0))

  abbrev prefix : Prefix → pure.Process
  prefix x = pure.Prefix x.0.0 (fields_of x.1.0.items) (process_of x.1.1.0)

  abbrev OfPrefix : Prefix → Type 0
  OfPrefix x = IsOrdered x.1.1.0

  prefix_agrees : (x y : Prefix) → OfPrefix x → prefix_cmp x y ≡ process_cmp (prefix x) (prefix y)
  prefix_agrees x y h =
      ap (ordering_then (nat_cmp x.0.0 y.0.0)) (ap₂ ordering_then (fields_ordered R A ad dd x.1.0.items y.1.0.items) (h y.1.1.0))

  abbrev Guard : Type 0
  Guard = Expr R.Denot × (Term R.Denot × Unit {0})

  abbrev guard_cmp : Guard → Guard → Ordering
  guard_cmp x y = ordering_then (expression_cmp x.0 y.0) (cmp x.1.0 y.1.0)

  abbrev guard : Guard → pure.Process
  guard x = pure.Guard (expression_of x.0) (process_of x.1.0)

  abbrev OfGuard : Guard → Type 0
  OfGuard x = IsOrdered x.1.0

  guard_agrees : (x y : Guard) → OfGuard x → guard_cmp x y ≡ process_cmp (guard x) (guard y)
  guard_agrees x y h =
      ap₂ ordering_then (expression_ordered R A ad dd x.0 y.0) (h y.1.0)

  abbrev Conditional : Type 0
  Conditional = Expr R.Denot × (Term R.Denot × (Term R.Denot × Unit {0}))

  abbrev conditional_cmp : Conditional → Conditional → Ordering
  conditional_cmp x y = ordering_then (expression_cmp x.0 y.0) (ordering_then (cmp x.1.0 y.1.0) (cmp x.1.1.0 y.1.1.0))

  abbrev conditional : Conditional → pure.Process
  conditional x = pure.If (expression_of x.0) (process_of x.1.0) (process_of x.1.1.0)

  abbrev OfConditional : Conditional → Type 0
  OfConditional x = IsOrdered x.1.0 × IsOrdered x.1.1.0

  conditional_agrees : (x y : Conditional) → OfConditional x → conditional_cmp x y ≡ process_cmp (conditional x) (conditional y)
  conditional_agrees x y h =
      ap₂ ordering_then (expression_ordered R A ad dd x.0 y.0) (ap₂ ordering_then (h.0 y.1.0) (h.1 y.1.1.0))

  abbrev Composed : Type 0
  Composed = ProcessOperator × (Term R.Denot × (Term R.Denot × Unit {0}))

  abbrev composed_cmp : Composed → Composed → Ordering
  composed_cmp x y = ordering_then (binary_cmp x.0 y.0) (ordering_then (cmp x.1.0 y.1.0) (cmp x.1.1.0 y.1.1.0))

  abbrev composed : Composed → pure.Process
  composed x = binary_process x.0 (process_of x.1.0) (process_of x.1.1.0)

  abbrev OfComposed : Composed → Type 0
  OfComposed x = IsOrdered x.1.0 × IsOrdered x.1.1.0

  composed_agrees : (x y : Composed) → OfComposed x → composed_cmp x y ≡ process_cmp (composed x) (composed y)
  composed_agrees x y h =
      ap (ordering_then (binary_cmp x.0 y.0)) (ap₂ ordering_then (h.0 y.1.0) (h.1 y.1.1.0))
      ∙ binary_ordered x.0 y.0 (process_of x.1.0) (process_of x.1.1.0) (process_of y.1.0) (process_of y.1.1.0)

  abbrev Generalised : Type 0
  Generalised = Term R.Denot × (EventSet R.Denot × (Term R.Denot × Unit {0}))

  abbrev generalised_cmp : Generalised → Generalised → Ordering
  generalised_cmp x y = ordering_then (cmp x.0 y.0) (ordering_then (event_set_cmp x.1.0 y.1.0) (cmp x.1.1.0 y.1.1.0))

  abbrev generalised : Generalised → pure.Process
  generalised x = pure.GeneralisedParallel (process_of x.0) (event_set_of x.1.0) (process_of x.1.1.0)

  abbrev OfGeneralised : Generalised → Type 0
  OfGeneralised x = IsOrdered x.0 × IsOrdered x.1.1.0

  generalised_agrees : (x y : Generalised) → OfGeneralised x → generalised_cmp x y ≡ process_cmp (generalised x) (generalised y)
  generalised_agrees x y h =
      ap₂ ordering_then (h.0 y.0) (ap₂ ordering_then (event_set_ordered R A ad dd x.1.0 y.1.0) (h.1 y.1.1.0))

  abbrev Alphabetised : Type 0
  Alphabetised = Term R.Denot × (EventSet R.Denot × (EventSet R.Denot × (Term R.Denot × Unit {0})))

  abbrev alphabetised_cmp : Alphabetised → Alphabetised → Ordering
  alphabetised_cmp x y = ordering_then (cmp x.0 y.0) (ordering_then (event_set_cmp x.1.0 y.1.0) (ordering_then (event_set_cmp x.1.1.0 y.1.1.0) (cmp x.1.1.1.0 y.1.1.1.0)))

  abbrev alphabetised : Alphabetised → pure.Process
  alphabetised x = pure.AlphabetisedParallel (process_of x.0) (event_set_of x.1.0) (event_set_of x.1.1.0) (process_of x.1.1.1.0)

  abbrev OfAlphabetised : Alphabetised → Type 0
  OfAlphabetised x = IsOrdered x.0 × IsOrdered x.1.1.1.0

  alphabetised_agrees : (x y : Alphabetised) → OfAlphabetised x → alphabetised_cmp x y ≡ process_cmp (alphabetised x) (alphabetised y)
  alphabetised_agrees x y h =
      ap₂ ordering_then (h.0 y.0) (ap₂ ordering_then (event_set_ordered R A ad dd x.1.0 y.1.0) (ap₂ ordering_then (event_set_ordered R A ad dd x.1.1.0 y.1.1.0) (h.1 y.1.1.1.0)))

  abbrev Hidden : Type 0
  Hidden = Term R.Denot × (EventSet R.Denot × Unit {0})

  abbrev hiding_cmp : Hidden → Hidden → Ordering
  hiding_cmp x y = ordering_then (cmp x.0 y.0) (event_set_cmp x.1.0 y.1.0)

  abbrev hiding : Hidden → pure.Process
  hiding x = pure.Hiding (process_of x.0) (event_set_of x.1.0)

  abbrev OfHidden : Hidden → Type 0
  OfHidden x = IsOrdered x.0

  hiding_agrees : (x y : Hidden) → OfHidden x → hiding_cmp x y ≡ process_cmp (hiding x) (hiding y)
  hiding_agrees x y h =
      ap₂ ordering_then (h y.0) (event_set_ordered R A ad dd x.1.0 y.1.0)

  abbrev Renamed : Type 0
  Renamed = Term R.Denot × (Vec (RenamingPair R.Denot) R.Denot × Unit {0})

  abbrev renaming_cmp : Renamed → Renamed → Ordering
  renaming_cmp x y = ordering_then (cmp x.0 y.0) (slice_cmp (pair_order R A ad dd) x.1.0.items y.1.0.items)

  abbrev renaming : Renamed → pure.Process
  renaming x = pure.Renaming (process_of x.0) (renaming_pairs_of x.1.0.items)

  abbrev OfRenamed : Renamed → Type 0
  OfRenamed x = IsOrdered x.0

  renaming_agrees : (x y : Renamed) → OfRenamed x → renaming_cmp x y ≡ process_cmp (renaming x) (renaming y)
  renaming_agrees x y h =
      ap₂ ordering_then (h y.0) (pairs_ordered R A ad dd x.1.0.items y.1.0.items)

  abbrev Indexed : Type 0
  Indexed = ReplicatedOperator × (Name × (Expr R.Denot × (Term R.Denot × Unit {0})))

  abbrev indexed_cmp : Indexed → Indexed → Ordering
  indexed_cmp x y = ordering_then (replicated_cmp x.0 y.0) (ordering_then (nat_cmp x.1.0.0 y.1.0.0) (ordering_then (expression_cmp x.1.1.0 y.1.1.0) (cmp x.1.1.1.0 y.1.1.1.0)))

  abbrev indexed : Indexed → pure.Process
  indexed x = replicated_process x.0 x.1.0.0 (expression_of x.1.1.0) (process_of x.1.1.1.0)

  abbrev OfIndexed : Indexed → Type 0
  OfIndexed x = IsOrdered x.1.1.1.0

  indexed_agrees : (x y : Indexed) → OfIndexed x → indexed_cmp x y ≡ process_cmp (indexed x) (indexed y)
  indexed_agrees x y h =
      ap (ordering_then (replicated_cmp x.0 y.0)) (ap (ordering_then (nat_cmp x.1.0.0 y.1.0.0)) (ap₂ ordering_then (expression_ordered R A ad dd x.1.1.0 y.1.1.0) (h y.1.1.1.0)))
      ∙ replicated_ordered x.0 y.0 x.1.0.0 y.1.0.0 (expression_of x.1.1.0) (expression_of y.1.1.0) (process_of x.1.1.1.0) (process_of y.1.1.1.0)

  abbrev Sliding : Type 0
  Sliding = Term R.Denot × (Term R.Denot × Unit {0})

  abbrev sliding_cmp : Sliding → Sliding → Ordering
  sliding_cmp x y = ordering_then (cmp x.0 y.0) (cmp x.1.0 y.1.0)

  abbrev sliding : Sliding → pure.Process
  sliding x = pure.SlidingChoice (process_of x.0) (process_of x.1.0)

  abbrev OfSliding : Sliding → Type 0
  OfSliding x = IsOrdered x.0 × IsOrdered x.1.0

  sliding_agrees : (x y : Sliding) → OfSliding x → sliding_cmp x y ≡ process_cmp (sliding x) (sliding y)
  sliding_agrees x y h =
      ap₂ ordering_then (h.0 y.0) (h.1 y.1.0)

  -- ---- all forms

  abbrev derived : Parts → Parts → Ordering
  derived = first_or nothing_cmp (first_or nothing_cmp (first_or nothing_cmp (first_or call_cmp (first_or prefix_cmp (first_or guard_cmp (first_or conditional_cmp (first_or composed_cmp (first_or generalised_cmp (first_or alphabetised_cmp (first_or hiding_cmp (first_or renaming_cmp (first_or indexed_cmp (first_or sliding_cmp no_more)))))))))))))

  abbrev meaning : Parts → pure.Process
  meaning = either stop (either skip (either omega_term (either call (either prefix (either guard (either conditional (either composed (either generalised (either alphabetised (either hiding (either renaming (either indexed (either sliding (λ v. absurd v))))))))))))))

  abbrev OrderedParts : Parts → Type 0
  OrderedParts = either_holds OfNothing (either_holds OfNothing (either_holds OfNothing (either_holds OfCall (either_holds OfPrefix (either_holds OfGuard (either_holds OfConditional (either_holds OfComposed (either_holds OfGeneralised (either_holds OfAlphabetised (either_holds OfHidden (either_holds OfRenamed (either_holds OfIndexed (either_holds OfSliding (λ v. ⊥))))))))))))))

  ranks : Ranks processes derived meaning OrderedParts 0
  ranks =
      one_at processes nothing_cmp stop OfNothing 0 (λ x. refl) (λ x y h. refl)
      (one_at processes nothing_cmp skip OfNothing 1 (λ x. refl) (λ x y h. refl)
      (one_at processes nothing_cmp omega_term OfNothing 2 (λ x. refl) (λ x y h. refl)
      (one_at processes call_cmp call OfCall 3 (λ x. refl) call_agrees
      (one_at processes prefix_cmp prefix OfPrefix 4 (λ x. refl) prefix_agrees
      (one_at processes guard_cmp guard OfGuard 5 (λ x. refl) guard_agrees
      (one_at processes conditional_cmp conditional OfConditional 6 (λ x. refl) conditional_agrees
      (one_more processes composed_cmp composed OfComposed 7 12 (λ x. binary_from x.0 (process_of x.1.0) (process_of x.1.1.0)) (λ x. binary_below x.0 (process_of x.1.0) (process_of x.1.1.0)) (omega arith) composed_agrees
      (one_at processes generalised_cmp generalised OfGeneralised 12 (λ x. refl) generalised_agrees
      (one_at processes alphabetised_cmp alphabetised OfAlphabetised 13 (λ x. refl) alphabetised_agrees
      (one_at processes hiding_cmp hiding OfHidden 14 (λ x. refl) hiding_agrees
      (one_at processes renaming_cmp renaming OfRenamed 15 (λ x. refl) renaming_agrees
      (one_more processes indexed_cmp indexed OfIndexed 16 19 (λ x. replicated_from x.0 x.1.0.0 (expression_of x.1.1.0) (process_of x.1.1.1.0)) (λ x. replicated_below x.0 x.1.0.0 (expression_of x.1.1.0) (process_of x.1.1.1.0)) (omega arith) indexed_agrees
      (one_at processes sliding_cmp sliding OfSliding 19 (λ x. refl) sliding_agrees
      (none processes 20))))))))))))))

  stands : (v : Parts) → process_of_form (make v) ≡ meaning v
  stands v =
      elim v as (λ v. process_of_form (make v) ≡ meaning v) [
        | inl w ↦ of_stop R.Denot
        | inr (inl w) ↦ of_skip R.Denot
        | inr (inr (inl w)) ↦ of_omega_term R.Denot
        | inr (inr (inr (inl w))) ↦ of_call R.Denot w.0 w.1.0
        | inr (inr (inr (inr (inl w)))) ↦ of_prefix R.Denot w.0 w.1.0 w.1.1.0
        | inr (inr (inr (inr (inr (inl w))))) ↦ of_guard R.Denot w.0 w.1.0
        | inr (inr (inr (inr (inr (inr (inl w)))))) ↦ of_conditional R.Denot w.0 w.1.0 w.1.1.0
        | inr (inr (inr (inr (inr (inr (inr (inl w))))))) ↦ of_binary R.Denot w.0 w.1.0 w.1.1.0
        | inr (inr (inr (inr (inr (inr (inr (inr (inl w)))))))) ↦ of_generalised R.Denot w.0 w.1.0 w.1.1.0
        | inr (inr (inr (inr (inr (inr (inr (inr (inr (inl w))))))))) ↦ of_alphabetised R.Denot w.0 w.1.0 w.1.1.0 w.1.1.1.0
        | inr (inr (inr (inr (inr (inr (inr (inr (inr (inr (inl w)))))))))) ↦ of_hiding R.Denot w.0 w.1.0
        | inr (inr (inr (inr (inr (inr (inr (inr (inr (inr (inr (inl w))))))))))) ↦ of_renaming R.Denot w.0 w.1.0
        | inr (inr (inr (inr (inr (inr (inr (inr (inr (inr (inr (inr (inl w)))))))))))) ↦ of_replicated R.Denot w.0 w.1.0 w.1.1.0 w.1.1.1.0
        | inr (inr (inr (inr (inr (inr (inr (inr (inr (inr (inr (inr (inr (inl w))))))))))))) ↦ of_sliding R.Denot w.0 w.1.0
        | inr (inr (inr (inr (inr (inr (inr (inr (inr (inr (inr (inr (inr (inr w))))))))))))) ↦ absurd w
      ]

  unfolds : (v w : Parts) → form_cmp (make v) (make w) ≡ derived v w
  unfolds v w = laws.is R A ad dd (make v) (make w) ∙ ap₂ derived (contract.the_beta R A v) (contract.the_beta R A w)

  of_parts : (v : Parts) → OrderedParts v → IsOrderedForm (make v)
  of_parts v parts b =
      subst (Agrees (make v)) (contract.the_eta R A b)
      (let w = contract.as_values R A b in unfolds v w ∙ ranks.ordered v w parts ∙ sym (ap₂ process_cmp (stands v) (stands w)))

  -- ---- all together

  -- terms and forms whose parts are ordered
  abbrev FormPart : Type 0
  FormPart = Holds.Such (block.the_family R.Denot) (claims R.Denot IsOrderedForm IsOrdered) block.member-TermForm

  abbrev Part : Type 0
  Part = Holds.Such (block.the_family R.Denot) (claims R.Denot IsOrderedForm IsOrdered) block.member-Term

  abbrev Layer : Type 0
  Layer = layer.TermForm-F R.Denot (TermForm R.Denot) (Term R.Denot)

  abbrev IsOrderedLayer : Layer → Type 0
  IsOrderedLayer x = IsOrderedForm (roll-TermForm R.Denot x)

  step : (x : Layer) (y : layer.TermForm-F R.Denot FormPart Part) → map-TermForm R.Denot FormPart Part (TermForm R.Denot) (Term R.Denot) (λ e. e.0) (λ e. e.0) y ≡ x → IsOrderedLayer x
  step x layer.Stop is = subst IsOrderedLayer is (subst IsOrderedForm (sym views.rolls-Stop) (of_parts (inl tt) tt))
  step x layer.Skip is = subst IsOrderedLayer is (subst IsOrderedForm (sym views.rolls-Skip) (of_parts (inr (inl tt)) tt))
  step x layer.Omega is = subst IsOrderedLayer is (subst IsOrderedForm (sym views.rolls-Omega) (of_parts (inr (inr (inl tt))) tt))
  step x (layer.Call n es) is = subst IsOrderedLayer is (subst IsOrderedForm (sym (views.rolls-Call n es)) (of_parts (inr (inr (inr (inl (n, (es, tt)))))) tt))
  step x (layer.Prefix c fs p) is = subst IsOrderedLayer is (subst IsOrderedForm (sym (views.rolls-Prefix c fs p.0)) (of_parts (inr (inr (inr (inr (inl (c, (fs, (p.0, tt)))))))) p.1))
  step x (layer.Guard e p) is = subst IsOrderedLayer is (subst IsOrderedForm (sym (views.rolls-Guard e p.0)) (of_parts (inr (inr (inr (inr (inr (inl (e, (p.0, tt)))))))) p.1))
  step x (layer.If e p q) is = subst IsOrderedLayer is (subst IsOrderedForm (sym (views.rolls-If e p.0 q.0)) (of_parts (inr (inr (inr (inr (inr (inr (inl (e, (p.0, (q.0, tt)))))))))) (p.1, q.1)))
  step x (layer.Binary op p q) is = subst IsOrderedLayer is (subst IsOrderedForm (sym (views.rolls-Binary op p.0 q.0)) (of_parts (inr (inr (inr (inr (inr (inr (inr (inl (op, (p.0, (q.0, tt))))))))))) (p.1, q.1)))
  step x (layer.GeneralisedParallel p a q) is = subst IsOrderedLayer is (subst IsOrderedForm (sym (views.rolls-GeneralisedParallel p.0 a q.0)) (of_parts (inr (inr (inr (inr (inr (inr (inr (inr (inl (p.0, (a, (q.0, tt)))))))))))) (p.1, q.1)))
  step x (layer.AlphabetisedParallel p a b q) is = subst IsOrderedLayer is (subst IsOrderedForm (sym (views.rolls-AlphabetisedParallel p.0 a b q.0)) (of_parts (inr (inr (inr (inr (inr (inr (inr (inr (inr (inl (p.0, (a, (b, (q.0, tt)))))))))))))) (p.1, q.1)))
  step x (layer.Hiding p a) is = subst IsOrderedLayer is (subst IsOrderedForm (sym (views.rolls-Hiding p.0 a)) (of_parts (inr (inr (inr (inr (inr (inr (inr (inr (inr (inr (inl (p.0, (a, tt))))))))))))) p.1))
  step x (layer.Renaming p rs) is = subst IsOrderedLayer is (subst IsOrderedForm (sym (views.rolls-Renaming p.0 rs)) (of_parts (inr (inr (inr (inr (inr (inr (inr (inr (inr (inr (inr (inl (p.0, (rs, tt)))))))))))))) p.1))
  step x (layer.Replicated op n e p) is = subst IsOrderedLayer is (subst IsOrderedForm (sym (views.rolls-Replicated op n e p.0)) (of_parts (inr (inr (inr (inr (inr (inr (inr (inr (inr (inr (inr (inr (inl (op, (n, (e, (p.0, tt))))))))))))))))) p.1))
  step x (layer.SlidingChoice p q) is = subst IsOrderedLayer is (subst IsOrderedForm (sym (views.rolls-SlidingChoice p.0 q.0)) (of_parts (inr (inr (inr (inr (inr (inr (inr (inr (inr (inr (inr (inr (inr (inl (p.0, (q.0, tt)))))))))))))))) (p.1, q.1)))

  abbrev TermLayer : Type 0
  TermLayer = layer.Term-F R.Denot (TermForm R.Denot) (Term R.Denot)

  abbrev IsOrderedTermLayer : TermLayer → Type 0
  IsOrderedTermLayer x = IsOrdered (roll-Term R.Denot x)

  by_forms : (s t : Term R.Denot) → IsOrderedForm (out-Term R.Denot s).form.value → cmp s t ≡ process_cmp (process_of s) (process_of t)
  by_forms s t same = term_laws.is R A ad dd s t ∙ rw (of_form R.Denot s, of_form R.Denot t) (same (out-Term R.Denot t).form.value)

  term_step : (x : TermLayer) (y : layer.Term-F R.Denot FormPart Part) → map-Term R.Denot FormPart Part (TermForm R.Denot) (Term R.Denot) (λ e. e.0) (λ e. e.0) y ≡ x → IsOrderedTermLayer x
  term_step x y is t =
      by_forms (roll-Term R.Denot x) t (let P : TermLayer → Type 0 = λ z. IsOrderedForm z.form.value in subst P (is ∙ sym (out-roll-Term R.Denot x)) y.form.value.1)

  pub ordered : (a : Term R.Denot) → IsOrdered a
  ordered = ind-Term R.Denot IsOrderedForm IsOrdered step term_step
