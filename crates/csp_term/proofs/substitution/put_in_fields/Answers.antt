-- Values are put into one more field, and what it hides is taken out.
use Rattle.std.proofs.Common.{[], ◌∷◌, ◌++◌, ◌∙◌, ap, ap₂}
use Rattle.theory_semantics.specs.Meaning.Substitution.{behind, put_fields}
use Rattle.csp_expression.specs.Bindings.{bindings_of}
use Rattle.csp_term.specs.Field.{field_of, fields_of}
use Rattle.csp_term.proofs.TermPutting.{all_behind, all_filled, filled, left_behind}
use Rattle.csp_term.proofs.substitution.put_in_fields.Goals as goal

pub loop-field-preserved : goal.loop-field-preserved
loop-field-preserved g c =
    let bs = bindings_of c.args.bindings.now in
    let left = bindings_of c.loop-field.left.items in
    let less = bindings_of c.hide.new.bindings.items in
    let field = c.field-item.result in
    let one = c.in_ok-put_in.ensures ∙ ap (λ cs. put_fields (bindings_of cs) (field_of field ∷ [])) c.deref.ensures.value in (
      filled bs c.args.fields.now c.loop-field.all.items c.push.new.self.items left less c.loop-field.field-index field c.in_ok-put_in.field-0
          c.loop-field-test.true c.field-item.is one c.hide.ensures c.in_ok-push.ensures.items c.loop-field.invariant.0,
      left_behind bs c.args.fields.now left less c.loop-field.field-index field c.loop-field-test.true c.field-item.is c.hide.ensures c.loop-field.invariant.1,
    )

pub loop-field-init : goal.loop-field-init
loop-field-init g c = (
  ap₂ (λ gs cs. fields_of gs ++ put_fields (bindings_of cs) (fields_of c.args.fields.now)) c.new-all.ensures.items c.in_ok-left.ensures.items,
  ap (λ cs. behind (bindings_of cs) (fields_of c.args.fields.now)) c.in_ok-left.ensures.items,
)

pub returns-clause-fields : goal.returns-clause-fields
returns-clause-fields g c =
    all_filled (bindings_of c.args.bindings.now) c.args.fields.now c.loop-field.all.items (bindings_of c.loop-field.left.items) c.loop-field.field-index c.loop-field-test.false c.loop-field.invariant.0

pub returns-clause-left : goal.returns-clause-left
returns-clause-left g c = all_behind (bindings_of c.args.bindings.now) c.args.fields.now (bindings_of c.loop-field.left.items) c.loop-field.field-index c.loop-field-test.false c.loop-field.invariant.1
