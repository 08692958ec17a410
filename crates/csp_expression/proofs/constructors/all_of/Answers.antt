-- The constructors so far, one more, and all of them.
use Rattle.std.proofs.Common.{◌≡◌, ◌+◌, ◌++◌, suc, List, Result, Err, Some, drop, take, slice_get, ◌∙◌, ap, sym, subst, rules, arith}
use Rattle.std.proofs.lemmas.Option.{slice_get-get_or}
use Rattle.std.proofs.lemmas.Result.{err_from_is_err_and}
use Rattle.std.specs.declared.vec.Vec.{Vec}
use Rattle.theory_syntax.specs.Value as pure
use Rattle.theory_semantics.specs.Meaning.Evaluation.{Cause, datatype_set}
use Rattle.csp_value.specs.declared.value.Value.{Value}
use Rattle.csp_value.specs.Fields.{sets_of}
use Rattle.csp_value.specs.Value.{values_of}
use Rattle.theory_semantics.specs.Meaning.Evaluation.{with_all_fields}
use Rattle.csp_expression.specs.declared.no_value.NoValue.{NoValue}
use Rattle.csp_expression.specs.Choosing.{HasAll}
use Rattle.csp_expression.specs.Evaluation.{Gives, constructors_of, table_of}
use Rattle.csp_expression.proofs.Constructing.{all_made, in_a_row, more_made, none_made, too_many_made}
use Rattle.csp_expression.proofs.constructors.all_of.Goals as goal

pub returns-then-first-count : goal.returns-then-first-count
returns-then-first-count g c = none_made c.args.types.now c.args.range.first.0 c.args.range.following (omega (arith, c.if-first-count.true, c.len.ensures))

pub returns-in_err-members-in-Ok : goal.returns-in_err-members-in-Ok
returns-in_err-members-in-Ok g c =
    let types = c.args.types.now in
    let first = c.args.range.first.0 in
    let at : slice_get types.constructors.items (first + c.loop-offset.offset) ≡ Some c.index-fields.result.now = slice_get-get_or types.constructors.items (first + c.loop-offset.offset) c.index-fields.result.now (omega (arith, c.if-first-count.false, c.len.ensures)) ∙ ap Some (sym c.index-fields.ensures) in
    let p = err_from_is_err_and c.from_residual.result c.from_residual.ensures.1 in
    let meaning : Vec (Value g.row.A.Denot) g.row.A.Denot → List pure.Value = λ all. values_of all.items in
    let k = c.in-Ok.constructor in
    let S : List pure.Value → Type 0 = λ vs. HasAll meaning (Err c.in_err-members-in-Ok.field-0.0) vs in
    let P : Result (Value g.row.A.Denot) NoValue → Type 0 = λ r. Gives r (datatype_set (table_of types) (Some (constructors_of c.args.range))) in
    subst P (sym (p.1 ∙ ap Err p.2))
    (too_many_made types first (suc c.args.range.following) (omega (arith, c.if-first-count.false, c.len.ensures)) c.loop-offset.offset (omega arith) c.index-fields.result.now at c.loop-offset.members.items c.loop-offset.invariant
    k (omega (arith, c.in-Ok.ensures)) meaning c.in_err-members-in-Ok.field-0.0
    (subst S (ap (λ ss. values_of c.loop-offset.members.items ++ with_all_fields k (sets_of ss)) c.deref.ensures.value) c.in_err-members-in-Ok.ensures))

pub loop-offset-preserved : goal.loop-offset-preserved
loop-offset-preserved g c =
    let types = c.args.types.now in
    let first = c.args.range.first.0 in
    let at : slice_get types.constructors.items (first + c.loop-offset.offset) ≡ Some c.index-fields.result.now = slice_get-get_or types.constructors.items (first + c.loop-offset.offset) c.index-fields.result.now (omega (arith, c.if-first-count.false, c.len.ensures)) ∙ ap Some (sym c.index-fields.ensures) in
    let k = c.in-Ok.constructor in
    more_made types first (suc c.args.range.following) (omega (arith, c.if-first-count.false, c.len.ensures)) c.loop-offset.offset (omega arith) c.index-fields.result.now at c.loop-offset.members.items c.loop-offset.invariant
    k (omega (arith, c.in-Ok.ensures)) c.in_ok-members-in-Ok.members.items
    (c.in_ok-members-in-Ok.ensures ∙ ap (λ ss. values_of c.loop-offset.members.items ++ with_all_fields k (sets_of ss)) c.deref.ensures.value)

pub returns-in_err-set_of_values : goal.returns-in_err-set_of_values
returns-in_err-set_of_values g c =
    let types = c.args.types.now in
    let first = c.args.range.first.0 in
    let n = suc c.args.range.following in
    let end : c.loop-offset.offset ≡ n = omega arith in
    let is = all_made types first n (omega (arith, c.if-first-count.false, c.len.ensures)) c.loop-offset.members.items (c.loop-offset.invariant ∙ ap (λ m. in_a_row first (take m (drop first (table_of types).constructors))) end) in
    let P : Result pure.Value Cause → Type 0 = λ r. Gives c.from_residual-in_err-set_of_values.result r in
    subst P is (search rules)

pub returns : goal.returns
returns g c =
    let types = c.args.types.now in
    let first = c.args.range.first.0 in
    let n = suc c.args.range.following in
    let end : c.loop-offset.offset ≡ n = omega arith in
    let is = all_made types first n (omega (arith, c.if-first-count.false, c.len.ensures)) c.loop-offset.members.items (c.loop-offset.invariant ∙ ap (λ m. in_a_row first (take m (drop first (table_of types).constructors))) end) in
    sym is ∙ c.in_ok-set_of_values.ensures
