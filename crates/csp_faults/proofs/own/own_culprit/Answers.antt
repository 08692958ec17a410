-- What is to blame in the own parts of each form.
use Rattle.std.proofs.Common.{◌≡◌, sym, ◌∙◌, ap, subst}
use Rattle.theory_syntax.specs.Expression.{to_expressions}
use Rattle.theory_syntax.specs.Operators.{replicated_process}
use Rattle.theory_syntax.specs.Process as pure
use Rattle.theory_faults.specs.Processes.{own_culprit}
use Rattle.csp_events.specs.Events.{event_set_of}
use Rattle.csp_expression.specs.Expression.{expression_of, expressions_of}
use Rattle.csp_term.proofs.Forms.{of_alphabetised, of_call, of_prefix, of_replicated}
use Rattle.csp_term.specs.Field.{fields_of}
use Rattle.csp_term.specs.Script.{script_of_parts}
use Rattle.csp_term.specs.Term.{process_of, process_of_form}
use Rattle.csp_faults.specs.Culprit.{Finds}
use Rattle.csp_faults.proofs.own.own_culprit.Goals as goal

pub returns-in-Call : goal.returns-in-Call
returns-in-Call g c =
    let s = script_of_parts c.args.script.now in
    let w = c.in-Call in
    let is : process_of c.args.term.now ≡ pure.Call w.equation.0 (to_expressions (expressions_of c.deref.result.now)) =
    sym c.form.ensures ∙ ap process_of_form w.is ∙ of_call g.row.A.Denot w.equation w.arguments ∙ ap (λ es. pure.Call w.equation.0 (to_expressions (expressions_of es))) (sym c.deref.ensures.value) in
    let P : pure.Process → Type 0 = λ p. Finds c.call_culprit.result (own_culprit s p) in
    subst P (sym is) c.call_culprit.ensures

pub returns-in-Prefix : goal.returns-in-Prefix
returns-in-Prefix g c =
    let s = script_of_parts c.args.script.now in
    let w = c.in-Prefix in
    let is : process_of c.args.term.now ≡ pure.Prefix w.channel.0 (fields_of c.deref-in-Prefix.result.now) (process_of w.field-2) =
    sym c.form.ensures ∙ ap process_of_form w.is ∙ of_prefix g.row.A.Denot w.channel w.fields w.field-2 ∙ ap (λ fs. pure.Prefix w.channel.0 (fields_of fs) (process_of w.field-2)) (sym c.deref-in-Prefix.ensures.value) in
    let P : pure.Process → Type 0 = λ p. Finds c.prefix_culprit.result (own_culprit s p) in
    subst P (sym is) c.prefix_culprit.ensures

pub returns-in-AlphabetisedParallel : goal.returns-in-AlphabetisedParallel
returns-in-AlphabetisedParallel g c =
    let s = script_of_parts c.args.script.now in
    let w = c.in-AlphabetisedParallel in
    let is : process_of c.args.term.now ≡ pure.AlphabetisedParallel (process_of w.field-0) (event_set_of w.own) (event_set_of w.other) (process_of w.field-3) =
    sym c.form.ensures ∙ ap process_of_form w.is ∙ of_alphabetised g.row.A.Denot w.field-0 w.own w.other w.field-3 in
    let P : pure.Process → Type 0 = λ p. Finds c.alphabets_culprit.result (own_culprit s p) in
    subst P (sym is) (c.alphabets_culprit.ensures (process_of w.field-0) (process_of w.field-3))

pub returns-in-Replicated : goal.returns-in-Replicated
returns-in-Replicated g c =
    let s = script_of_parts c.args.script.now in
    let w = c.in-Replicated in
    let is : process_of c.args.term.now ≡ replicated_process w.operator w.name.0 (expression_of w.set) (process_of w.field-3) =
    sym c.form.ensures ∙ ap process_of_form w.is ∙ of_replicated g.row.A.Denot w.operator w.name w.set w.field-3 in
    let P : pure.Process → Type 0 = λ p. Finds c.replicated_culprit.result (own_culprit s p) in
    subst P (sym is) (c.replicated_culprit.ensures (process_of w.field-3))
