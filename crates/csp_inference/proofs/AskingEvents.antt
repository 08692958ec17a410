-- Events and sets of events ask part by part.
use Rattle.std.proofs.Common.{◌≡◌, ℕ, List, ◌++◌, map, Some, refl, sym, ◌∙◌, ap, ap₂}
use Rattle.std.specs.Prelude.{slice_get, option_map}
use Rattle.std.specs.declared.boxed.Box.{Box}
use Rattle.std.specs.declared.vec.Vec.{Vec}
use Rattle.theory_syntax.specs.Process as pure
use Rattle.theory_syntax.specs.Types.{Types}
use Rattle.theory_checking.specs.Inference.State.{KindEquation}
use Rattle.theory_checking.specs.Inference.Equations as numbers
use Rattle.theory_checking.specs.Inference.Equations.{when}
use Rattle.theory_checking.specs.Inference.Expressions.{behind_expressions, of_all, of_first}
use Rattle.theory_checking.specs.Inference.Processes.{behind_event, behind_event_set, behind_events, of_beginning, of_beginnings, of_event, of_event_set, of_events}
use Rattle.csp_events.specs.declared.event_expression.EventExpression.{EventExpression}
use Rattle.csp_events.specs.declared.event_set.EventSet.{EventSet}
use Rattle.csp_events.specs.declared.event_set.EventSet.TheVariants as views
use Rattle.theory_syntax.specs.declared.event_set_operator.EventSetOperator.{EventSetOperator}
use Rattle.theory_syntax.specs.declared.event_set_operator.EventSetOperator.TheVariants as operator
use Rattle.csp_events.specs.Events.{event_expression_of, event_expressions_of, event_set_of}
use Rattle.theory_syntax.specs.Operators.{combined}
use Rattle.csp_events.proofs.EventForms as forms
use Rattle.theory_syntax.specs.Expression.{to_expressions}
use Rattle.std.proofs.lemmas.Option.{slice_get-map}
use Rattle.csp_expression.specs.declared.expr.Expr.{Expr}
use Rattle.csp_expression.specs.Expression.{expressions_of}
use Rattle.csp_inference.specs.declared.chain.KindNumber.{KindNumber}
use Rattle.csp_inference.specs.declared.numbering.Numbering.{Numbering}
use Rattle.csp_inference.specs.Numbering.{numbering_of}
use Rattle.csp_inference.specs.declared.equations.Equations.{Equations}
use Rattle.csp_inference.specs.Equations.{Asks}
use Rattle.csp_inference.proofs.Asking.{asks_same, asks_then, found_asks}

abbrev pub asked_events : {A : Type 0} → Types → numbers.Numbering → numbers.Numbered → ℕ → List (EventExpression A) → List KindEquation
asked_events types o names n es = of_events types o n names (event_expressions_of es)

abbrev pub asked_beginnings : {A : Type 0} → Types → numbers.Numbering → numbers.Numbered → ℕ → List (EventExpression A) → List KindEquation
asked_beginnings types o names n es = of_beginnings types o n names (event_expressions_of es)

abbrev pub behind_asked_events : {A : Type 0} → ℕ → List (EventExpression A) → ℕ
behind_asked_events n es = behind_events n (event_expressions_of es)

module _ {A : Type 0} (types : Types) (o : numbers.Numbering) (names : numbers.Numbered) where
  -- two sets under an operator
  pub asked_combined : (s t u : Equations A) (op : EventSetOperator) (a b whole : pure.EventSet) →
      whole ≡ combined op a b → Asks s t (of_event_set types o s.next names a) (behind_event_set s.next a) →
      Asks t u (of_event_set types o t.next names b) (behind_event_set t.next b) →
      Asks s u (of_event_set types o s.next names whole) (behind_event_set s.next whole)
  asked_combined s t u op a b whole is first second =
      let both = asks_then s t u (of_event_set types o s.next names a) (behind_event_set s.next a) (λ m. of_event_set types o m names b) (λ m. behind_event_set m b) first second in
      asks_same s u (of_event_set types o s.next names a ++ of_event_set types o (behind_event_set s.next a) names b) (of_event_set types o s.next names whole)
      (behind_event_set (behind_event_set s.next a) b) (behind_event_set s.next whole)
      (by_operator op ∙ ap (of_event_set types o s.next names) (sym is)) (behind_operator op ∙ ap (behind_event_set s.next) (sym is)) both
    where
      by_operator : (op : EventSetOperator) → of_event_set types o s.next names a ++ of_event_set types o (behind_event_set s.next a) names b ≡ of_event_set types o s.next names (combined op a b)
      by_operator operator.Union = refl
      by_operator operator.Intersection = refl
      by_operator operator.Difference = refl

      behind_operator : (op : EventSetOperator) → behind_event_set (behind_event_set s.next a) b ≡ behind_event_set s.next (combined op a b)
      behind_operator operator.Union = refl
      behind_operator operator.Intersection = refl
      behind_operator operator.Difference = refl

pub of_enumeration : {A : Type 0} (s : EventSet A) (es : Vec (EventExpression A) A) (read : List (EventExpression A)) →
    s ≡ views.Enumeration es → read ≡ es.items → event_set_of s ≡ pure.Enumeration (event_expressions_of read)
of_enumeration {A} s es read is same = ap event_set_of is ∙ forms.of_enumeration A es ∙ ap (λ x. pure.Enumeration (event_expressions_of x)) (sym same)

pub of_productions : {A : Type 0} (s : EventSet A) (es : Vec (EventExpression A) A) (read : List (EventExpression A)) →
    s ≡ views.Productions es → read ≡ es.items → event_set_of s ≡ pure.Productions (event_expressions_of read)
of_productions {A} s es read is same = ap event_set_of is ∙ forms.of_productions A es ∙ ap (λ x. pure.Productions (event_expressions_of x)) (sym same)

pub of_combine : {A : Type 0} (s : EventSet A) (op : EventSetOperator) (a b : Box (EventSet A) A) (left right : EventSet A) →
    s ≡ views.Combine op a b → left ≡ a.value → right ≡ b.value → event_set_of s ≡ combined op (event_set_of left) (event_set_of right)
of_combine {A} s op a b left right is same alike = ap event_set_of is ∙ forms.of_combined A op a b ∙ ap₂ (λ x y. combined op (event_set_of x) (event_set_of y)) (sym same) (sym alike)

-- the fields of an event whose channel is there
pub asked_fields_all :
    {A : Type 0} (types : Types) (names : numbers.Numbered) (s t : Equations A) (o : Numbering A) (e : EventExpression A) (ns : Vec KindNumber A)
    (es : List (Expr A)) (ms : List KindNumber) → slice_get o.channels.items e.channel.0 ≡ Some ns → es ≡ e.fields.items → ms ≡ ns.items →
    Asks s t (of_all types (numbering_of o) s.next names (to_expressions (expressions_of es)) (map (λ n. n.0) ms))
    (behind_expressions s.next (to_expressions (expressions_of es))) →
    Asks s t (of_event types (numbering_of o) s.next names (event_expression_of e)) (behind_event s.next (event_expression_of e))
asked_fields_all types names s t o e ns es ms found read numbered h =
    found_asks s t (slice_get (numbering_of o).channels e.channel.0) (map (λ n. n.0) ns.items)
    (of_all types (numbering_of o) s.next names (to_expressions (expressions_of e.fields.items))) (behind_event s.next (event_expression_of e))
    (slice_get-map (λ v. map (λ n. n.0) v.items) o.channels.items e.channel.0 ∙ ap (option_map (λ v. map (λ n. n.0) v.items)) found)
    (asks_same s t (of_all types (numbering_of o) s.next names (to_expressions (expressions_of es)) (map (λ n. n.0) ms))
    (of_all types (numbering_of o) s.next names (to_expressions (expressions_of e.fields.items)) (map (λ n. n.0) ns.items))
    (behind_expressions s.next (to_expressions (expressions_of es))) (behind_event s.next (event_expression_of e))
    (ap₂ (λ xs ys. of_all types (numbering_of o) s.next names (to_expressions (expressions_of xs)) (map (λ n. n.0) ys)) read numbered)
    (ap (λ xs. behind_expressions s.next (to_expressions (expressions_of xs))) read) h)

pub asked_fields_first :
    {A : Type 0} (types : Types) (names : numbers.Numbered) (s t : Equations A) (o : Numbering A) (e : EventExpression A) (ns : Vec KindNumber A)
    (es : List (Expr A)) (ms : List KindNumber) → slice_get o.channels.items e.channel.0 ≡ Some ns → es ≡ e.fields.items → ms ≡ ns.items →
    Asks s t (of_first types (numbering_of o) s.next names (to_expressions (expressions_of es)) (map (λ n. n.0) ms))
    (behind_expressions s.next (to_expressions (expressions_of es))) →
    Asks s t (of_beginning types (numbering_of o) s.next names (event_expression_of e)) (behind_event s.next (event_expression_of e))
asked_fields_first types names s t o e ns es ms found read numbered h =
    found_asks s t (slice_get (numbering_of o).channels e.channel.0) (map (λ n. n.0) ns.items)
    (of_first types (numbering_of o) s.next names (to_expressions (expressions_of e.fields.items))) (behind_event s.next (event_expression_of e))
    (slice_get-map (λ v. map (λ n. n.0) v.items) o.channels.items e.channel.0 ∙ ap (option_map (λ v. map (λ n. n.0) v.items)) found)
    (asks_same s t (of_first types (numbering_of o) s.next names (to_expressions (expressions_of es)) (map (λ n. n.0) ms))
    (of_first types (numbering_of o) s.next names (to_expressions (expressions_of e.fields.items)) (map (λ n. n.0) ns.items))
    (behind_expressions s.next (to_expressions (expressions_of es))) (behind_event s.next (event_expression_of e))
    (ap₂ (λ xs ys. of_first types (numbering_of o) s.next names (to_expressions (expressions_of xs)) (map (λ n. n.0) ys)) read numbered)
    (ap (λ xs. behind_expressions s.next (to_expressions (expressions_of xs))) read) h)
