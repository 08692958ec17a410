-- Sets of events are resolved part by part.
use Rattle.std.specs.Prelude.{option_map, IfOk, IfErr}
use Rattle.std.proofs.Common.{◌≡◌, ◌++◌, List, map, Some, Result, Ok, Err, refl, sym, ap, ap₂, ◌∙◌, subst}
use Rattle.std.specs.declared.boxed.Box.{Box}
use Rattle.std.specs.declared.vec.Vec.{Vec}
use Rattle.theory_syntax.specs.Process as pure
use Rattle.theory_syntax.specs.Operators.{combined}
use Rattle.theory_syntax.specs.declared.event_set_operator.EventSetOperator.{EventSetOperator}
use Rattle.theory_syntax.specs.declared.event_set_operator.EventSetOperator.TheVariants as operator
use Rattle.theory_text.specs.Raw.{RawEvent, RawEventSet, RawEnumeration, RawProductions}
use Rattle.theory_checking.specs.Names.{Environment}
use Rattle.theory_checking.specs.Resolving as resolving
use Rattle.theory_checking.specs.Resolving.{of_two}
use Rattle.theory_checking.specs.Sites.{Site, in_event_set}
use Rattle.theory_checking.specs.Walks.{AllFine}
use Rattle.theory_checking.proofs.Walking.{fine_both}
use Rattle.csp_parse.specs.declared.events.Event.{Event}
use Rattle.csp_parse.specs.declared.event_sets.EventSet as raw
use Rattle.csp_parse.specs.declared.event_sets.EventSet.TheOpen as layer
use Rattle.csp_parse.specs.declared.event_sets.EventSet.TheFolds.{fold-roll-EventSet}
use Rattle.csp_parse.specs.declared.event_sets.EventSet.TheVariants as views
use Rattle.csp_parse.specs.Events.{event_of}
use Rattle.csp_parse.specs.EventSets as written
use Rattle.csp_parse.specs.EventSets.{event_set_step, operator_of}
use Rattle.csp_parse.proofs.ProcessTrees.{set_of_enumeration, set_of_productions}
use Rattle.csp_events.specs.declared.event_expression.EventExpression.{EventExpression}
use Rattle.csp_events.specs.declared.event_set.EventSet.{EventSet}
use Rattle.csp_events.specs.Events.{event_expressions_of, event_set_of}
use Rattle.csp_names.specs.declared.bound_names.BoundNames.{BoundNames}
use Rattle.csp_names.specs.declared.refusals.Refused.{Refused}
use Rattle.csp_names.specs.declared.refusals.Refused.TheVariants as refused
use Rattle.csp_names.specs.declared.scope.Scope.{Scope}
use Rattle.csp_names.specs.Walks.{ResolvesEvents, ResolvesEventSet, ResolvesProductions, Stops}
use Rattle.csp_names.proofs.Walking.{made, stops_behind, stops_first}

-- ---- what is written, form by form

module _ {A : Type 0} (set : raw.EventSet A) where
  pub of_enumeration : (events : Vec (Event A) A) (read : List (Event A)) → set ≡ views.Enumeration events → read ≡ events.items → written.event_set_of set ≡ RawEnumeration (map event_of read)
  of_enumeration events read is same = ap written.event_set_of is ∙ set_of_enumeration A events ∙ ap (λ es. RawEnumeration (map event_of es)) (sym same)

  pub of_productions : (events : Vec (Event A) A) (read : List (Event A)) → set ≡ views.Productions events → read ≡ events.items → written.event_set_of set ≡ RawProductions (map event_of read)
  of_productions events read is same = ap written.event_set_of is ∙ set_of_productions A events ∙ ap (λ es. RawProductions (map event_of es)) (sym same)

  pub of_combine : (op : EventSetOperator) (x y : Box (raw.EventSet A) A) (left right : raw.EventSet A) → set ≡ views.Combine op x y → left ≡ x.value → right ≡ y.value → written.event_set_of set ≡ operator_of op (written.event_set_of left) (written.event_set_of right)
  of_combine op x y left right is same alike =
      ap written.event_set_of is ∙ ap (written.event_set_of {A = A}) (sym (views.rolls-Combine op x y)) ∙ fold-roll-EventSet A RawEventSet event_set_step (layer.Combine op x y)
      ∙ ap₂ (λ u v. operator_of op (written.event_set_of u) (written.event_set_of v)) (sym same) (sym alike)

-- ---- an operator between two sets

pub sites_of_both : (env : Environment) (op : EventSetOperator) (x y : RawEventSet) → in_event_set env (operator_of op x y) ≡ in_event_set env x ++ in_event_set env y
sites_of_both env operator.Union x y = refl
sites_of_both env operator.Intersection x y = refl
sites_of_both env operator.Difference x y = refl

meaning_of_both : (env : Environment) (op : EventSetOperator) (x y : RawEventSet) → resolving.event_set_of env (operator_of op x y) ≡ of_two (combined op) (resolving.event_set_of env x) (resolving.event_set_of env y)
meaning_of_both env operator.Union x y = refl
meaning_of_both env operator.Intersection x y = refl
meaning_of_both env operator.Difference x y = refl

module _ {A : Type 0} (scope : Scope A) (b : BoundNames A) (set : RawEventSet) where
  whole : (x : RawEventSet) (r : Result (EventSet A) Refused) → set ≡ x → ResolvesEventSet scope b x r → ResolvesEventSet scope b set r
  whole x r is h = let P : RawEventSet → Type 0 = λ y. ResolvesEventSet scope b y r in subst P (sym is) h

  pub enumeration_stops : (es : List RawEvent) (f : Refused) → set ≡ RawEnumeration es → ResolvesEvents scope b es (Err f) → ResolvesEventSet scope b set (Err f)
  enumeration_stops es f is h = whole (RawEnumeration es) (Err f) is h

  pub enumeration_resolved : (es : List RawEvent) (v : Vec (EventExpression A) A) (s : EventSet A) → set ≡ RawEnumeration es → ResolvesEvents scope b es (Ok v) → event_set_of s ≡ pure.Enumeration (event_expressions_of v.items) → ResolvesEventSet scope b set (Ok s)
  enumeration_resolved es v s is h makes = whole (RawEnumeration es) (Ok s) is (λ env stands knows.
      let part = h env stands knows in
      (part.0, ap (option_map pure.Enumeration) part.1 ∙ ap Some (sym makes)))

  pub productions_stop : (es : List RawEvent) (f : Refused) → set ≡ RawProductions es → ResolvesProductions scope b es (Err f) → ResolvesEventSet scope b set (Err f)
  productions_stop es f is h = whole (RawProductions es) (Err f) is h

  pub productions_resolved : (es : List RawEvent) (v : Vec (EventExpression A) A) (s : EventSet A) → set ≡ RawProductions es → ResolvesProductions scope b es (Ok v) → event_set_of s ≡ pure.Productions (event_expressions_of v.items) → ResolvesEventSet scope b set (Ok s)
  productions_resolved es v s is h makes = whole (RawProductions es) (Ok s) is (λ env stands knows.
      let part = h env stands knows in
      (part.0, ap (option_map pure.Productions) part.1 ∙ ap Some (sym makes)))

  module _ (op : EventSetOperator) (x y : RawEventSet) (is : set ≡ operator_of op x y) where
    pub left_stops : (f : Refused) → ResolvesEventSet scope b x (Err f) → ResolvesEventSet scope b set (Err f)
    left_stops f h = whole (operator_of op x y) (Err f) is (λ env stands knows.
        let P : List Site → Type 0 = λ xs. Stops xs f in
        subst P (sym (sites_of_both env op x y)) (stops_first (in_event_set env x) (in_event_set env y) f (h env stands knows)))

    pub right_stops : (left : EventSet A) (f : Refused) → ResolvesEventSet scope b x (Ok left) → ResolvesEventSet scope b y (Err f) → ResolvesEventSet scope b set (Err f)
    right_stops left f h k = whole (operator_of op x y) (Err f) is (λ env stands knows.
        let P : List Site → Type 0 = λ xs. Stops xs f in
        subst P (sym (sites_of_both env op x y)) (stops_behind (in_event_set env x) (in_event_set env y) f (h env stands knows).0 (k env stands knows)))

    pub both_resolved : (left right : EventSet A) (r : Result (EventSet A) Refused) → ResolvesEventSet scope b x (Ok left) → ResolvesEventSet scope b y (Ok right) →
        IfOk r (λ s. event_set_of s ≡ combined op (event_set_of left) (event_set_of right)) → IfErr r (λ f. f ≡ refused.Memory) → ResolvesEventSet scope b set r
    both_resolved left right r h k makes stops = whole (operator_of op x y) r is (λ env stands knows.
        let first = h env stands knows in
        let second = k env stands knows in
        let P : List Site → Type 0 = AllFine in
        made (in_event_set env (operator_of op x y)) (resolving.event_set_of env (operator_of op x y)) event_set_of (combined op (event_set_of left) (event_set_of right)) r
        (subst P (sym (sites_of_both env op x y)) (fine_both (in_event_set env x) (in_event_set env y) first.0 second.0)) (meaning_of_both env op x y ∙ ap₂ (of_two (combined op)) first.1 second.1) makes stops)
