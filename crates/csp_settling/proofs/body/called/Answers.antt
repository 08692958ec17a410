-- What a call stands for is found by the values of its arguments, its equation and the bindings of its parameters.
use Rattle.std.proofs.Common.{◌≡◌, IfOk, IsErrOf, IsTrue, IsFalse, List, Option, Some, None, Result, Err, length, map, slice_get, refl, sym, ◌∙◌, ap, ap₂, subst}
use Rattle.std.proofs.lemmas.Option.{slice_get_past, slice_get_read}
use Rattle.std.proofs.lemmas.Result.{err_from_is_err_and}
use Rattle.theory_syntax.specs.Expression.{to_expressions}
use Rattle.theory_syntax.proofs.Places.{get_some}
use Rattle.theory_semantics.specs.Meaning.Evaluation.{Cause}
use Rattle.theory_semantics.specs.Meaning.Events.{called, parameter_bindings}
use Rattle.theory_semantics.specs.Meaning.Limits.{fits}
use Rattle.theory_semantics.specs.Meaning.Substitution.{Bindings, put, put_expressions}
use Rattle.csp_expression.specs.Bindings.{bindings_of}
use Rattle.csp_expression.specs.Expression.{expressions_of}
use Rattle.csp_term.specs.declared.substitution.TermFault.{TermFault}
use Rattle.csp_term.specs.declared.substitution.TermFault.TheVariants.{TooLarge}
use Rattle.csp_term.specs.declared.term.Term.{Term}
use Rattle.csp_term.specs.Script.{equation_of, script_of_parts}
use Rattle.csp_term.specs.Term.{process_of}
use Rattle.csp_expression.proofs.Forming.{get_none}
use Rattle.csp_expression.specs.declared.no_value.NoValue.{NoValue}
use Rattle.csp_settling.specs.Arguments.{Binds, seen_values}
use Rattle.csp_settling.specs.Settling.{IsCalled}
use Rattle.csp_settling.proofs.Calling.{bindings_stuck, goes_to, is_past, is_within, unknown, values_stuck}
use Rattle.csp_settling.proofs.body.called.Goals as goal

pub returns-in_err-values-clause-body : goal.returns-in_err-values-clause-body
returns-in_err-values-clause-body g c =
    let script = script_of_parts c.args.script.now in
    let es = put_expressions (bindings_of c.args.bindings.now) (to_expressions (expressions_of c.args.arguments.now)) in
    let p = err_from_is_err_and c.from_residual.result c.from_residual.ensures.1 in
    let P : Result (Option (Term g.row.A.Denot)) NoValue → Type 0 = λ r. IsCalled r (called script c.args.equation.0 es) in
    subst P (sym (p.1 ∙ ap Err p.2)) (values_stuck script c.args.equation.0 es g.row.A.Denot c.in_err-values.field-0.0 c.in_err-values.ensures)

pub returns-in_default-clause-body : goal.returns-in_default-clause-body
returns-in_default-clause-body g c =
    let table = c.deref.result.now in
    let n = c.args.equation.0 in
    let at = ap (λ xs. slice_get xs n) (sym c.deref.ensures.value) ∙ slice_get_past table n c.in_default.ensures.lookup.3 in
    unknown (script_of_parts c.args.script.now) n (put_expressions (bindings_of c.args.bindings.now) (to_expressions (expressions_of c.args.arguments.now))) (seen_values c.in_ok-values.values.items) c.in_ok-values.ensures (get_none equation_of c.args.script.now.equations.items n at)

pub returns-in_err-parameters-clause-body : goal.returns-in_err-parameters-clause-body
returns-in_err-parameters-clause-body g c =
    let script = script_of_parts c.args.script.now in
    let es = put_expressions (bindings_of c.args.bindings.now) (to_expressions (expressions_of c.args.arguments.now)) in
    let table = c.deref.result.now in
    let n = c.args.equation.0 in
    let look = c.in-Some.ensures.lookup in
    let equation = c.in-Some.called.now in
    let at = ap (λ xs. slice_get xs n) (sym c.deref.ensures.value) ∙ slice_get_read table (length table) n equation refl look.3.0 look.1 in
    let same = ap₂ (λ ns vs. parameter_bindings (map (λ m. m.0) ns) (seen_values vs)) c.deref-2.ensures.value c.deref-3.ensures.value in
    let B : Result Bindings Cause → Type 0 = λ r. Binds {A = g.row.A.Denot} (Err c.in_err-parameters.field-0.0) r in
    let p = err_from_is_err_and c.from_residual-in_err-parameters.result c.from_residual-in_err-parameters.ensures.1 in
    let P : Result (Option (Term g.row.A.Denot)) NoValue → Type 0 = λ r. IsCalled r (called script n es) in
    subst P (sym (p.1 ∙ ap Err p.2)) (bindings_stuck script n es (seen_values c.in_ok-values.values.items) c.in_ok-values.ensures (equation_of equation) (get_some equation_of c.args.script.now.equations.items n equation at) g.row.A.Denot c.in_err-parameters.field-0.0 (subst B same c.in_err-parameters.ensures))

pub returns-in-Ok-clause-body : goal.returns-in-Ok-clause-body
returns-in-Ok-clause-body g c =
    let script = script_of_parts c.args.script.now in
    let es = put_expressions (bindings_of c.args.bindings.now) (to_expressions (expressions_of c.args.arguments.now)) in
    let table = c.deref.result.now in
    let n = c.args.equation.0 in
    let look = c.in-Some.ensures.lookup in
    let equation = c.in-Some.called.now in
    let at = ap (λ xs. slice_get xs n) (sym c.deref.ensures.value) ∙ slice_get_read table (length table) n equation refl look.3.0 look.1 in
    let same = ap₂ (λ ns vs. parameter_bindings (map (λ m. m.0) ns) (seen_values vs)) c.deref-2.ensures.value c.deref-3.ensures.value in
    let bs = bindings_of c.in_ok-parameters.parameters.items in
    let goes = goes_to script n es (seen_values c.in_ok-values.values.items) c.in_ok-values.ensures (equation_of equation) (get_some equation_of c.args.script.now.equations.items n equation at) bs (sym same ∙ c.in_ok-parameters.ensures) in
    let t = put bs (process_of equation.body) in
    let P : Result (Term g.row.A.Denot) TermFault → Type 0 = λ r. IfOk r (λ u. process_of u ≡ put (bindings_of c.deref-4.result.now) (process_of equation.body)) in
    let Q : Result (Term g.row.A.Denot) TermFault → Type 0 = λ r. IfOk r (λ u. IsTrue (fits (process_of u))) in
    let is = subst P c.in-Ok.is c.subst.ensures.put ∙ ap (λ ds. put (bindings_of ds) (process_of equation.body)) c.deref-4.ensures.value in
    (t, goes, is_within c.in-Ok.body t is (subst Q c.in-Ok.is c.subst.ensures.within))

pub returns-in-Err-TooLarge-clause-body : goal.returns-in-Err-TooLarge-clause-body
returns-in-Err-TooLarge-clause-body g c =
    let script = script_of_parts c.args.script.now in
    let es = put_expressions (bindings_of c.args.bindings.now) (to_expressions (expressions_of c.args.arguments.now)) in
    let table = c.deref.result.now in
    let n = c.args.equation.0 in
    let look = c.in-Some.ensures.lookup in
    let equation = c.in-Some.called.now in
    let at = ap (λ xs. slice_get xs n) (sym c.deref.ensures.value) ∙ slice_get_read table (length table) n equation refl look.3.0 look.1 in
    let same = ap₂ (λ ns vs. parameter_bindings (map (λ m. m.0) ns) (seen_values vs)) c.deref-2.ensures.value c.deref-3.ensures.value in
    let bs = bindings_of c.in_ok-parameters.parameters.items in
    let goes = goes_to script n es (seen_values c.in_ok-values.values.items) c.in_ok-values.ensures (equation_of equation) (get_some equation_of c.args.script.now.equations.items n equation at) bs (sym same ∙ c.in_ok-parameters.ensures) in
    let t = put bs (process_of equation.body) in
    let P : Result (Term g.row.A.Denot) TermFault → Type 0 = λ r. IsErrOf r TooLarge → IsFalse (fits (put (bindings_of c.deref-4.result.now) (process_of equation.body))) in
    let past = subst P c.in-Err-TooLarge.is c.subst.ensures.too_large (ap Err c.in-Err-TooLarge.field-0-is) in
    (t, goes, is_past g.row.A.Denot t (subst (λ ds. IsFalse (fits (put (bindings_of ds) (process_of equation.body)))) c.deref-4.ensures.value past))
