-- Values are put into one more expression, and what the expressions make up.
use Rattle.std.proofs.Common.{◌≡◌, List, sym, ◌∙◌, ap}
use Rattle.std.specs.declared.vec.Vec.{Vec}
use Rattle.theory_syntax.specs.Expression.{ConstructorOf, SequenceOf, SetOf, to_expressions}
use Rattle.theory_semantics.specs.Meaning.Substitution.{Bindings, put_expression}
use Rattle.csp_value.specs.declared.name.ConId.{ConId}
use Rattle.csp_expression.specs.declared.expr.Expr.{Expr}
use Rattle.csp_expression.specs.declared.expr.Expr.TheVariants as views
use Rattle.csp_expression.specs.Bindings.{bindings_of, puts}
use Rattle.csp_expression.specs.Expression.{expression_of, expressions_of}
use Rattle.csp_value.proofs.Copying.{map_push}
use Rattle.csp_expression.proofs.ExpressionPutting.{put_list}
use Rattle.csp_expression.proofs.ExpressionForms.{of_constructor, of_sequence, of_set}
use Rattle.csp_expression.proofs.+put.Goals as goal

put_sequence : {A : Type 0} (bs : Bindings) (self : Expr A) (items all : Vec (Expr A) A) (read : List (Expr A)) → self ≡ views.Sequence items → read ≡ items.items → expressions_of all.items ≡ puts bs read →
    expression_of {A = A} (views.Sequence all) ≡ put_expression bs (expression_of self)
put_sequence {A} bs self items all read is same put =
    of_sequence A all ∙ ap (λ es. SequenceOf (to_expressions es)) (put ∙ ap (puts bs) same) ∙ ap SequenceOf (put_list bs items.items) ∙ ap (put_expression bs) (sym (ap expression_of is ∙ of_sequence A items))

put_set : {A : Type 0} (bs : Bindings) (self : Expr A) (members all : Vec (Expr A) A) (read : List (Expr A)) → self ≡ views.Set members → read ≡ members.items → expressions_of all.items ≡ puts bs read →
    expression_of {A = A} (views.Set all) ≡ put_expression bs (expression_of self)
put_set {A} bs self members all read is same put =
    of_set A all ∙ ap (λ es. SetOf (to_expressions es)) (put ∙ ap (puts bs) same) ∙ ap SetOf (put_list bs members.items) ∙ ap (put_expression bs) (sym (ap expression_of is ∙ of_set A members))

put_constructor : {A : Type 0} (bs : Bindings) (self : Expr A) (k : ConId) (fields all : Vec (Expr A) A) (read : List (Expr A)) → self ≡ views.Constructor k fields → read ≡ fields.items → expressions_of all.items ≡ puts bs read →
    expression_of {A = A} (views.Constructor k all) ≡ put_expression bs (expression_of self)
put_constructor {A} bs self k fields all read is same put =
    of_constructor A k all ∙ ap (λ es. ConstructorOf k.0 (to_expressions es)) (put ∙ ap (puts bs) same) ∙ ap (ConstructorOf k.0) (put_list bs fields.items) ∙ ap (put_expression bs) (sym (ap expression_of is ∙ of_constructor A k fields))

pub substitution::put_in_all-loop-expression-preserved : goal.substitution::put_in_all-loop-expression-preserved
substitution::put_in_all-loop-expression-preserved g t c =
    map_push expression_of (λ e. put_expression (bindings_of c.args.bindings.now) (expression_of e)) c.loop-expression.all.items c.push.new.self.items c.in_ok-put_in.field-0 c.args.expressions.now c.loop-expression.expression-index c.expression-item.result
    c.loop-expression.invariant c.loop-expression-test.true c.expression-item.is c.in_ok-put_in.ensures c.in_ok-push.ensures.items

pub expr::Expr::put_in-returns-in_ok-put_in_all-in-Sequence : goal.expr::Expr::put_in-returns-in_ok-put_in_all-in-Sequence
expr::Expr::put_in-returns-in_ok-put_in_all-in-Sequence g t c =
    put_sequence (bindings_of c.args.bindings.now) c.args.self.now c.in-Sequence.items c.in_ok-put_in_all-in-Sequence.field-0 c.deref-in-Sequence.result.now c.in-Sequence.is c.deref-in-Sequence.ensures.value c.in_ok-put_in_all-in-Sequence.ensures

pub expr::Expr::put_in-returns-in_ok-put_in_all-in-Set : goal.expr::Expr::put_in-returns-in_ok-put_in_all-in-Set
expr::Expr::put_in-returns-in_ok-put_in_all-in-Set g t c =
    put_set (bindings_of c.args.bindings.now) c.args.self.now c.in-Set.members c.in_ok-put_in_all-in-Set.field-0 c.deref-in-Set.result.now c.in-Set.is c.deref-in-Set.ensures.value c.in_ok-put_in_all-in-Set.ensures

pub expr::Expr::put_in-returns-in_ok-fields-in-Constructor : goal.expr::Expr::put_in-returns-in_ok-fields-in-Constructor
expr::Expr::put_in-returns-in_ok-fields-in-Constructor g t c =
    put_constructor (bindings_of c.args.bindings.now) c.args.self.now c.in-Constructor.constructor c.in-Constructor.fields c.in_ok-fields-in-Constructor.fields c.deref-in-Constructor.result.now c.in-Constructor.is c.deref-in-Constructor.ensures.value c.in_ok-fields-in-Constructor.ensures
