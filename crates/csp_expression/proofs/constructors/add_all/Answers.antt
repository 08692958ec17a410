-- What is added so far, and what is left of the lists.
use Rattle.std.proofs.Common.{◌≡◌, ◌++◌, List, ◌∙◌, refl, sym, ap, subst, Result, Err, arith, length}
use Rattle.std.proofs.lemmas.List.{length-map, nil_from_length}
use Rattle.std.proofs.lemmas.Result.{err_from_is_err_and}
use Rattle.std.specs.declared.vec.Vec.{Vec}
use Rattle.theory_syntax.specs.Value as pure
use Rattle.theory_semantics.specs.Meaning.Evaluation.{choices, with_all_fields}
use Rattle.csp_value.specs.declared.value.Value.{Value}
use Rattle.csp_value.specs.Fields.{sets_of}
use Rattle.csp_value.specs.Value.{value_of, values_of}
use Rattle.csp_expression.specs.declared.no_value.NoValue.{NoValue}
use Rattle.csp_expression.specs.Choosing.{HasAll, lists_of}
use Rattle.csp_expression.proofs.Constructing.{none_behind, one_made, too_many_fields, with_fields}
use Rattle.csp_expression.proofs.constructors.add_all.Goals as goal

pub returns-in_err-lists : goal.returns-in_err-lists
returns-in_err-lists g c =
    let p = err_from_is_err_and c.from_residual.result c.from_residual.ensures.1 in
    let lists : Vec (Vec (Value g.row.A.Denot) g.row.A.Denot) g.row.A.Denot → List (List pure.Value) = λ all. lists_of all.items in
    let meaning : Vec (Value g.row.A.Denot) g.row.A.Denot → List pure.Value = λ all. values_of all.items in
    let P : Result (Vec (Value g.row.A.Denot) g.row.A.Denot) NoValue → Type 0 = λ r. HasAll meaning r (values_of c.args.members.items ++ with_all_fields c.args.constructor.0 (sets_of c.args.sets.now)) in
    subst P (sym (p.1 ∙ ap Err p.2)) (too_many_fields lists meaning c.args.constructor.0 (values_of c.args.members.items) (choices (sets_of c.args.sets.now)) c.in_err-lists.field-0.0 c.in_err-lists.ensures)

pub loop-fields-init : goal.loop-fields-init
loop-fields-init g c =
    ap (λ ls. values_of c.args.members.items ++ with_fields c.args.constructor.0 (lists_of ls)) c.into_iter-fields-iterator.ensures.into_iter_gives.0
    ∙ ap (λ css. values_of c.args.members.items ++ with_fields c.args.constructor.0 css) c.in_ok-lists.ensures

pub loop-fields-preserved : goal.loop-fields-preserved
loop-fields-preserved g c =
    one_made c.args.constructor c.loop-fields.all.items c.push.new.self.items c.in-Some.fields (lists_of c.next.new.self.rest.items) _ c.in_ok-push.ensures.items
    (ap (λ ls. values_of c.loop-fields.all.items ++ with_fields c.args.constructor.0 (lists_of ls)) (sym c.in-Some.ensures.steps.0) ∙ c.loop-fields.invariant)

pub returns-then-len-gt-MAX_MEMBERS : goal.returns-then-len-gt-MAX_MEMBERS
returns-then-len-gt-MAX_MEMBERS g c =
    let all = sym (none_behind (values_of c.loop-fields.all.items)) ∙ ap (λ ls. values_of c.loop-fields.all.items ++ with_fields c.args.constructor.0 (lists_of ls)) (sym (nil_from_length c.loop-fields.fields-iterator.rest.items (sym c.loop-fields.fields-iterator.rest.ok.0 ∙ c.in-None.ensures.steps.0))) ∙ c.loop-fields.invariant in
    let counted : length c.loop-fields.all.items ≡ length (values_of c.args.members.items ++ with_all_fields c.args.constructor.0 (sets_of c.args.sets.now)) = sym (length-map c.loop-fields.all.items value_of) ∙ ap length all in
    (refl, omega (arith, c.if-len-gt-MAX_MEMBERS.true))

pub returns : goal.returns
returns g c =
    sym (none_behind (values_of c.loop-fields.all.items)) ∙ ap (λ ls. values_of c.loop-fields.all.items ++ with_fields c.args.constructor.0 (lists_of ls)) (sym (nil_from_length c.loop-fields.fields-iterator.rest.items (sym c.loop-fields.fields-iterator.rest.ok.0 ∙ c.in-None.ensures.steps.0))) ∙ c.loop-fields.invariant
