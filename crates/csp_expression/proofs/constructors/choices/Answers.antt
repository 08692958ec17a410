-- The choices of the last sets, with one set more in front.
use Rattle.std.proofs.Common.{List, ◌∙◌, sym, ap, subst, Result, Err, arith}
use Rattle.std.proofs.lemmas.Result.{err_from_is_err_and}
use Rattle.std.specs.declared.vec.Vec.{Vec}
use Rattle.theory_semantics.specs.Meaning.Evaluation.{choices}
use Rattle.csp_value.specs.declared.value.Value.{Value}
use Rattle.csp_value.specs.Fields.{sets_of}
use Rattle.theory_syntax.specs.Value as pure
use Rattle.csp_expression.specs.declared.no_value.NoValue.{NoValue}
use Rattle.csp_expression.specs.Choosing.{HasAll, lists_of}
use Rattle.csp_expression.proofs.Choosing.{all_choices, next_choices, no_choice, start_choices, too_many_choices}
use Rattle.csp_expression.proofs.constructors.choices.Goals as goal

pub returns-then-has_empty_set : goal.returns-then-has_empty_set
returns-then-has_empty_set g c = ap lists_of c.new.ensures.items ∙ sym (no_choice (sets_of c.args.sets.now) (c.has_empty_set.ensures.0 c.if-has_empty_set.true))

pub loop-left-init : goal.loop-left-init
loop-left-init g c = (omega arith, start_choices c.args.sets.now c.new-all.result.items c.push.new.self.items c.new-2.result c.new-all.ensures.items c.new-2.ensures.items c.in_ok-push.ensures.items)

pub returns-in_err-all : goal.returns-in_err-all
returns-in_err-all g c =
    let sets = c.args.sets.now in
    let p = err_from_is_err_and c.from_residual-in_err-all.result c.from_residual-in_err-all.ensures.1 in
    let meaning : Vec (Vec (Value g.row.A.Denot) g.row.A.Denot) g.row.A.Denot → List (List pure.Value) = λ all. lists_of all.items in
    let P : Result (Vec (Vec (Value g.row.A.Denot) g.row.A.Denot) g.row.A.Denot) NoValue → Type 0 = λ r. HasAll meaning r (choices (sets_of sets)) in
    let so_far = ap lists_of c.deref.ensures.value ∙ c.loop-left.invariant.1 in
    subst P (sym (p.1 ∙ ap Err p.2))
    (too_many_choices sets c.loop-left.left c.index-sets-left.result (lists_of c.deref.result.now) (omega (arith, c.loop-left-test.true)) c.loop-left.invariant.0 c.index-sets-left.is so_far
    meaning c.in_err-all.field-0.0 (λ h. absurd (cc (sym c.if-has_empty_set.false ∙ c.has_empty_set.ensures.1 h))) c.in_err-all.ensures)

pub loop-left-preserved : goal.loop-left-preserved
loop-left-preserved g c =
    let so_far = ap lists_of c.deref.ensures.value ∙ c.loop-left.invariant.1 in
    (omega (arith, c.loop-left.invariant.0), next_choices c.args.sets.now c.loop-left.left c.index-sets-left.result (lists_of c.deref.result.now) (omega (arith, c.loop-left-test.true)) c.loop-left.invariant.0 c.index-sets-left.is so_far (lists_of c.in_ok-all.all.items) c.in_ok-all.ensures)

pub returns : goal.returns
returns g c = all_choices c.args.sets.now c.loop-left.left (omega (arith, c.loop-left-test.false)) c.loop-left.invariant.1
