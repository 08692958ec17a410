-- Each part is put one after the other.
use Rattle.std.proofs.Common.{List, ◌++◌, ap, ◌∙◌, sym}
use Rattle.std.specs.Prelude.{codes, false}
use Rattle.std.specs.String.{string_bytes}
use Rattle.theory_search.specs.Printing.{name_at}
use Rattle.theory_syntax.specs.Expression.{to_expressions}
use Rattle.theory_syntax.specs.Process.{Call, Prefix, Renaming}
use Rattle.csp_expression.specs.declared.expr.Expr.{Expr}
use Rattle.csp_expression.specs.Expression.{expression_of, expressions_of}
use Rattle.csp_events.specs.declared.renaming_pair.RenamingPair.{RenamingPair}
use Rattle.csp_events.specs.Events.{renaming_pairs_of}
use Rattle.csp_term.specs.declared.field.Field.{Field}
use Rattle.csp_term.specs.Field.{fields_of}
use Rattle.csp_term.specs.Term.{process_of, process_of_form}
use Rattle.csp_term.proofs.Forms.{of_binary, of_call, of_prefix, of_renaming}
use Rattle.theory_notation.specs.Expressions.{operand_text}
use Rattle.theory_notation.specs.Processes.{Operand, fields_text, process_text, text_at}
use Rattle.csp_print.specs.Names.{names_of}
use Rattle.csp_print.specs.Shapes.{replicator_text}
use Rattle.csp_print.proofs.ProcessTexts.{chained, replicated_over}
use Rattle.csp_print.proofs.Writing.{alike, behind}
use Rattle.csp_print.proofs.processes.+term.Goals as goal

pub push_term-returns-in-Call : goal.push_term-returns-in-Call
push_term-returns-in-Call g t c =
    let is = sym c.form.ensures ∙ ap process_of_form c.in-Call.is ∙ of_call g.row.A.Denot c.in-Call.equation c.in-Call.arguments in
    let read = ap (λ (es : List (Expr g.row.A.Denot)). Call c.in-Call.equation.0 (to_expressions (expressions_of es))) c.as_slice.ensures.value in
    alike c.push_call.result (string_bytes c.args.text.now) (string_bytes c.push_call.new.text) _ _ (ap (process_text (names_of c.args.names.now)) (read ∙ sym is)) c.push_call.ensures

pub push_term-returns-in-Prefix : goal.push_term-returns-in-Prefix
push_term-returns-in-Prefix g t c =
    let is = sym c.form.ensures ∙ ap process_of_form c.in-Prefix.is ∙ of_prefix g.row.A.Denot c.in-Prefix.channel c.in-Prefix.fields c.in-Prefix.body in
    let read = ap (λ (fs : List (Field g.row.A.Denot)). Prefix c.in-Prefix.channel.0 (fields_of fs) (process_of c.in-Prefix.body)) c.as_slice-in-Prefix.ensures.value in
    alike c.push_prefix.result (string_bytes c.args.text.now) (string_bytes c.push_prefix.new.text) _ _ (ap (process_text (names_of c.args.names.now)) (read ∙ sym is)) c.push_prefix.ensures

pub push_term-returns-in-Binary : goal.push_term-returns-in-Binary
push_term-returns-in-Binary g t c =
    let names = names_of c.args.names.now in
    let is = sym c.form.ensures ∙ ap process_of_form c.in-Binary.is ∙ of_binary g.row.A.Denot c.in-Binary.operator c.in-Binary.left c.in-Binary.right in
    alike c.push_chain.result (string_bytes c.args.text.now) (string_bytes c.push_chain.new.text) _ _
    (chained names c.in-Binary.operator (process_of c.in-Binary.left) (process_of c.in-Binary.right) ∙ ap (process_text names) (sym is)) c.push_chain.ensures

pub push_term-returns-in-Renaming : goal.push_term-returns-in-Renaming
push_term-returns-in-Renaming g t c =
    let is = sym c.form.ensures ∙ ap process_of_form c.in-Renaming.is ∙ of_renaming g.row.A.Denot c.in-Renaming.body c.in-Renaming.pairs in
    let read = ap (λ (rs : List (RenamingPair g.row.A.Denot)). Renaming (process_of c.in-Renaming.body) (renaming_pairs_of rs)) c.as_slice-in-Renaming.ensures.value in
    alike c.push_renaming.result (string_bytes c.args.text.now) (string_bytes c.push_renaming.new.text) _ _ (ap (process_text (names_of c.args.names.now)) (read ∙ sym is)) c.push_renaming.ensures

pub push_replicated-returns : goal.push_replicated-returns
push_replicated-returns g t c =
    let names = names_of c.args.names.now in
    let r = c.push_term.result in
    let start = string_bytes c.args.text.now in
    let all = string_bytes c.push_term.new.text in
    let name = name_at names.bound c.args.name.0 in
    let set = operand_text names 6 (expression_of c.args.set.now) in
    let body = process_text names (process_of c.args.body.now) in
    alike r start all _ _ (replicated_over names c.args.operator c.args.name.0 (expression_of c.args.set.now) (process_of c.args.body.now))
    (behind r start (string_bytes c.push_mark.new.text) all (replicator_text c.args.operator) (name ++ (codes ":" ++ (set ++ (codes " @ " ++ body)))) (c.in_ok-push_mark.ensures ∙ ap (λ ts. start ++ ts) c.replicated_text.ensures)
    (behind r (string_bytes c.push_mark.new.text) (string_bytes c.push_bound.new.text) all name (codes ":" ++ (set ++ (codes " @ " ++ body))) c.in_ok-push_bound.ensures
    (behind r (string_bytes c.push_bound.new.text) (string_bytes c.push_mark-2.new.text) all (codes ":") (set ++ (codes " @ " ++ body)) c.in_ok-push_mark-2.ensures
    (behind r (string_bytes c.push_mark-2.new.text) (string_bytes c.push_operand.new.text) all set (codes " @ " ++ body) c.in_ok-push_operand.ensures
    (behind r (string_bytes c.push_operand.new.text) (string_bytes c.push_mark-3.new.text) all (codes " @ ") body c.in_ok-push_mark-3.ensures c.push_term.ensures)))))

pub push_prefix-returns : goal.push_prefix-returns
push_prefix-returns g t c =
    let names = names_of c.args.names.now in
    let r = c.push_at.result in
    let start = string_bytes c.args.text.now in
    let all = string_bytes c.push_at.new.text in
    let channel = name_at names.channels c.args.channel.0 in
    let fields = fields_text names false (fields_of c.args.fields.now) in
    let body = text_at Operand names (process_of c.args.body.now) in
    behind r start (string_bytes c.push_channel.new.text) all channel (fields ++ (codes " -> " ++ body)) c.in_ok-push_channel.ensures
    (behind r (string_bytes c.push_channel.new.text) (string_bytes c.push_fields.new.text) all fields (codes " -> " ++ body) c.in_ok-push_fields.ensures
    (behind r (string_bytes c.push_fields.new.text) (string_bytes c.push_mark.new.text) all (codes " -> ") body c.in_ok-push_mark.ensures c.push_at.ensures))
