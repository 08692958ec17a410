-- Values put into events, sets of events and renaming pairs.
use Rattle.std.proofs.Common.{◌≡◌, List, [], ◌∷◌, map, refl, sym, ◌∙◌, ap, ap₂}
use Rattle.std.specs.declared.boxed.Box.{Box}
use Rattle.std.specs.declared.vec.Vec.{Vec}
use Rattle.theory_syntax.specs.Expression.{to_expressions}
use Rattle.theory_syntax.specs.Process as pure
use Rattle.theory_syntax.specs.declared.event_set_operator.EventSetOperator.{EventSetOperator}
use Rattle.theory_syntax.specs.declared.event_set_operator.EventSetOperator.TheVariants as operator
use Rattle.theory_syntax.specs.Operators.{combined}
use Rattle.theory_semantics.specs.Meaning.Substitution.{Bindings, put_event, put_event_set, put_events, put_pairs}
use Rattle.csp_value.specs.declared.name.ChannelId.{ChannelId}
use Rattle.csp_expression.specs.declared.expr.Expr.{Expr}
use Rattle.csp_events.specs.declared.event_expression.EventExpression.{EventExpression}
use Rattle.csp_events.specs.declared.renaming_pair.RenamingPair.{RenamingPair}
use Rattle.csp_events.specs.declared.event_set.EventSet.{EventSet}
use Rattle.csp_events.specs.declared.event_set.EventSet.TheVariants as views
use Rattle.csp_expression.specs.Bindings.{puts}
use Rattle.csp_events.specs.Events.{put_pair, event_expression_of, event_expressions_of, event_set_of, renaming_pair_of, renaming_pairs_of}
use Rattle.csp_expression.specs.Expression.{expressions_of}
use Rattle.csp_events.proofs.EventForms.{of_combined, of_enumeration, of_productions}
use Rattle.csp_expression.proofs.ExpressionPutting.{put_list}
use Rattle.theory_semantics.proofs.Putting.{put_nothing_in_event}

pub put_fields_of : {A : Type 0} (bs : Bindings) (c : ChannelId) (es all : Vec (Expr A) A) (read : List (Expr A)) → read ≡ es.items → expressions_of all.items ≡ puts bs read →
    event_expression_of {A = A} (record { channel = c; fields = all }) ≡ put_event bs (event_expression_of {A = A} (record { channel = c; fields = es }))
put_fields_of bs c es all read same done =
    let fields = ap to_expressions (done ∙ ap (puts bs) same) ∙ put_list bs es.items in
    λ i. record { channel = c.0; fields = fields i }

-- each of a list
pub put_each_event : {A : Type 0} (bs : Bindings) (es : List (EventExpression A)) → put_events bs (event_expressions_of es) ≡ map (λ e. put_event bs (event_expression_of e)) es
put_each_event bs [] = refl
put_each_event bs (e ∷ es) = ap (λ fs. put_event bs (event_expression_of e) ∷ fs) (put_each_event bs es)

pub put_each_pair : {A : Type 0} (bs : Bindings) (rs : List (RenamingPair A)) → put_pairs bs (renaming_pairs_of rs) ≡ map (λ r. put_pair bs (renaming_pair_of r)) rs
put_each_pair bs [] = refl
put_each_pair bs (r ∷ rs) = ap (λ ss. put_pair bs (renaming_pair_of r) ∷ ss) (put_each_pair bs rs)

-- putting no value in changes nothing
pub put_nothing_in_pair : (r : pure.RenamingPair) → put_pair [] r ≡ r
put_nothing_in_pair r =
    let from = put_nothing_in_event r.from in
    let to = put_nothing_in_event r.to in
    λ i. record { from = from i; to = to i }

-- ---- sets

pub put_enumeration : {A : Type 0} (bs : Bindings) (self : EventSet A) (es all : Vec (EventExpression A) A) (read : List (EventExpression A)) → self ≡ views.Enumeration es → read ≡ es.items → event_expressions_of all.items ≡ put_events bs (event_expressions_of read) →
    event_set_of {A = A} (views.Enumeration all) ≡ put_event_set bs (event_set_of self)
put_enumeration {A} bs self es all read is same done =
    of_enumeration A all ∙ ap pure.Enumeration (done ∙ ap (λ fs. put_events bs (event_expressions_of fs)) same) ∙ ap (put_event_set bs) (sym (ap event_set_of is ∙ of_enumeration A es))

pub put_productions : {A : Type 0} (bs : Bindings) (self : EventSet A) (es all : Vec (EventExpression A) A) (read : List (EventExpression A)) → self ≡ views.Productions es → read ≡ es.items → event_expressions_of all.items ≡ put_events bs (event_expressions_of read) →
    event_set_of {A = A} (views.Productions all) ≡ put_event_set bs (event_set_of self)
put_productions {A} bs self es all read is same done =
    of_productions A all ∙ ap pure.Productions (done ∙ ap (λ fs. put_events bs (event_expressions_of fs)) same) ∙ ap (put_event_set bs) (sym (ap event_set_of is ∙ of_productions A es))

pub put_combined : (bs : Bindings) (op : EventSetOperator) (a b : pure.EventSet) → put_event_set bs (combined op a b) ≡ combined op (put_event_set bs a) (put_event_set bs b)
put_combined bs operator.Union a b = refl
put_combined bs operator.Intersection a b = refl
put_combined bs operator.Difference a b = refl

pub put_both : {A : Type 0} (bs : Bindings) (self : EventSet A) (op : EventSetOperator) (a b c d : Box (EventSet A) A) → self ≡ views.Combine op a b → event_set_of c.value ≡ put_event_set bs (event_set_of a.value) → event_set_of d.value ≡ put_event_set bs (event_set_of b.value) →
    event_set_of {A = A} (views.Combine op c d) ≡ put_event_set bs (event_set_of self)
put_both {A} bs self op a b c d is first second =
    of_combined A op c d ∙ ap₂ (combined op) first second ∙ sym (put_combined bs op (event_set_of a.value) (event_set_of b.value)) ∙ ap (put_event_set bs) (sym (ap event_set_of is ∙ of_combined A op a b))
