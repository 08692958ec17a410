-- Each part is put one after the other.
use Rattle.std.proofs.Common.{List, ◌++◌, ap, ◌∙◌, sym}
use Rattle.std.specs.Prelude.{codes}
use Rattle.std.specs.String.{string_bytes}
use Rattle.theory_syntax.specs.Process.{Enumeration, Productions}
use Rattle.csp_events.specs.declared.event_expression.EventExpression.{EventExpression}
use Rattle.csp_events.specs.Events.{event_expressions_of, event_set_of}
use Rattle.csp_events.proofs.EventForms.{of_enumeration, of_productions}
use Rattle.theory_notation.specs.EventSets.{event_set_text, events_text}
use Rattle.csp_print.specs.EventSets.{operator_text}
use Rattle.csp_print.specs.Names.{names_of}
use Rattle.csp_print.proofs.EventSetTexts.{combined_text}
use Rattle.csp_print.proofs.Writing.{alike, behind}
use Rattle.csp_print.proofs.event_sets.+event_set.Goals as goal

pub push_event_set-returns-in_ok-push_events-in-Enumeration : goal.push_event_set-returns-in_ok-push_events-in-Enumeration
push_event_set-returns-in_ok-push_events-in-Enumeration g t c =
    let names = names_of c.args.names.now in
    let r = c.push_mark-in-Enumeration.result in
    let all = string_bytes c.push_mark-in-Enumeration.new.text in
    let inner = events_text names (event_expressions_of c.as_slice.result.now) in
    let is = ap event_set_of c.in-Enumeration.is ∙ of_enumeration g.row.A.Denot c.in-Enumeration.events in
    let read = ap (λ (es : List (EventExpression g.row.A.Denot)). Enumeration (event_expressions_of es)) c.as_slice.ensures.value in
    alike r (string_bytes c.args.text.now) all _ _ (ap (event_set_text names) (read ∙ sym is))
    (behind r (string_bytes c.args.text.now) (string_bytes c.push_mark.new.text) all (codes "{") (inner ++ codes "}") c.in_ok-push_mark-in-Enumeration.ensures
    (behind r (string_bytes c.push_mark.new.text) (string_bytes c.push_events.new.text) all inner (codes "}") c.in_ok-push_events-in-Enumeration.ensures c.push_mark-in-Enumeration.ensures))

pub push_event_set-returns-in_ok-push_events-in-Productions : goal.push_event_set-returns-in_ok-push_events-in-Productions
push_event_set-returns-in_ok-push_events-in-Productions g t c =
    let names = names_of c.args.names.now in
    let r = c.push_mark-in-Productions-2.result in
    let all = string_bytes c.push_mark-in-Productions-2.new.text in
    let inner = events_text names (event_expressions_of c.as_slice-in-Productions.result.now) in
    let is = ap event_set_of c.in-Productions.is ∙ of_productions g.row.A.Denot c.in-Productions.events in
    let read = ap (λ (es : List (EventExpression g.row.A.Denot)). Productions (event_expressions_of es)) c.as_slice-in-Productions.ensures.value in
    alike r (string_bytes c.args.text.now) all _ _ (ap (event_set_text names) (read ∙ sym is))
    (behind r (string_bytes c.args.text.now) (string_bytes c.push_mark-in-Productions.new.text) all (codes "{|") (inner ++ codes "|}") c.in_ok-push_mark-in-Productions.ensures
    (behind r (string_bytes c.push_mark-in-Productions.new.text) (string_bytes c.push_events-in-Productions.new.text) all inner (codes "|}") c.in_ok-push_events-in-Productions.ensures
    c.push_mark-in-Productions-2.ensures))

pub push_combined-returns : goal.push_combined-returns
push_combined-returns g t c =
    let names = names_of c.args.names.now in
    let r = c.push_mark-3.result in
    let start = string_bytes c.args.text.now in
    let all = string_bytes c.push_mark-3.new.text in
    let left = event_set_text names (event_set_of c.args.left.now) in
    let right = event_set_text names (event_set_of c.args.right.now) in
    alike r start all _ _ (combined_text names c.args.operator (event_set_of c.args.left.now) (event_set_of c.args.right.now))
    (behind r start (string_bytes c.push_mark.new.text) all (operator_text c.args.operator) (left ++ (codes ", " ++ (right ++ codes ")"))) (c.in_ok-push_mark.ensures ∙ ap (λ ts. start ++ ts) c.text_before.ensures)
    (behind r (string_bytes c.push_mark.new.text) (string_bytes c.push_event_set.new.text) all left (codes ", " ++ (right ++ codes ")")) c.in_ok-push_event_set.ensures
    (behind r (string_bytes c.push_event_set.new.text) (string_bytes c.push_mark-2.new.text) all (codes ", ") (right ++ codes ")") c.in_ok-push_mark-2.ensures
    (behind r (string_bytes c.push_mark-2.new.text) (string_bytes c.push_event_set-2.new.text) all right (codes ")") c.in_ok-push_event_set-2.ensures c.push_mark-3.ensures))))
