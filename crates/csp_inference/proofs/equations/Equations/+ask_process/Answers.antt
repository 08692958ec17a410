-- Each form asks what its parts ask, in order.
use Rattle.std.proofs.Common.{◌∷◌, sym, subst, ◌∙◌, ap}
use Rattle.theory_syntax.specs.Expression.{to_expressions}
use Rattle.theory_syntax.specs.Process.{Call, Prefix, Renaming}
use Rattle.csp_expression.specs.Expression.{expression_of, expressions_of}
use Rattle.csp_events.specs.Events.{event_set_of, renaming_pairs_of}
use Rattle.csp_term.specs.Field.{fields_of}
use Rattle.csp_term.specs.Script.{script_of_parts}
use Rattle.csp_term.specs.Term.{process_of, process_of_form}
use Rattle.csp_term.proofs.Forms as forms
use Rattle.csp_inference.specs.Equations.{HasNames, names_behind_prefix}
use Rattle.csp_inference.specs.Numbering.{names_of, numbering_of}
use Rattle.csp_inference.proofs.Adding.{if_ok}
use Rattle.csp_inference.proofs.AskingProcesses.{asked_alphabetised, asked_binary, asked_generalised, asked_guard, asked_hiding, asked_if, asked_prefix, asked_renaming, asked_replicated, asked_sliding, whole}
use Rattle.csp_inference.proofs.equations.Equations.+ask_process.Goals as goal

pub returns-in-Call : goal.returns-in-Call
returns-in-Call g t c =
    let script = script_of_parts c.args.script.now in
    let o = numbering_of c.args.numbering.now in
    let names = names_of c.args.names.now in
    let s = c.args.self.now in
    let p = process_of c.args.process.now in
    let is = sym c.form.ensures ∙ ap process_of_form c.in-Call.is ∙ forms.of_call g.row.A.Denot c.in-Call.called c.in-Call.arguments
    ∙ ap (λ es. Call c.in-Call.called.0 (to_expressions (expressions_of es))) (sym c.deref.ensures.value) in
    if_ok c.ask_call.result
    (λ _. whole script o names s p c.ask_call.new.self (Call c.in-Call.called.0 (to_expressions (expressions_of c.deref.result.now))) is)
    c.ask_call.ensures

pub returns-in_ok-inner-in-Prefix : goal.returns-in_ok-inner-in-Prefix
returns-in_ok-inner-in-Prefix g t c =
    let script = script_of_parts c.args.script.now in
    let o = numbering_of c.args.numbering.now in
    let names = names_of c.args.names.now in
    let s = c.args.self.now in
    let p = process_of c.args.process.now in
    let is = sym c.form.ensures ∙ ap process_of_form c.in-Prefix.is ∙ forms.of_prefix g.row.A.Denot c.in-Prefix.channel c.in-Prefix.fields c.in-Prefix.body
    ∙ ap (λ fs. Prefix c.in-Prefix.channel.0 (fields_of fs) (process_of c.in-Prefix.body)) (sym c.deref-in-Prefix.ensures.value) in
    if_ok c.ask_process.result
    (λ _. asked_prefix script o names s p c.ask_prefix.new.self c.ask_process.new.self c.in-Prefix.channel.0 (fields_of c.deref-in-Prefix.result.now)
    (process_of c.in-Prefix.body) (names_of c.deref-in-Prefix-2.result.now) is c.in_ok-inner-in-Prefix.ensures.asks
    (subst (λ xs. HasNames c.ask_prefix.new.self (names_of xs) (names_behind_prefix o names c.in-Prefix.channel.0 (fields_of c.deref-in-Prefix.result.now)))
    (sym c.deref-in-Prefix-2.ensures.value) c.in_ok-inner-in-Prefix.ensures.names))
    c.ask_process.ensures

pub returns-in_ok-ask_expression-in-Guard : goal.returns-in_ok-ask_expression-in-Guard
returns-in_ok-ask_expression-in-Guard g t c =
    let script = script_of_parts c.args.script.now in
    let o = numbering_of c.args.numbering.now in
    let names = names_of c.args.names.now in
    let s = c.args.self.now in
    let p = process_of c.args.process.now in
    let is = sym c.form.ensures ∙ ap process_of_form c.in-Guard.is ∙ forms.of_guard g.row.A.Denot c.in-Guard.condition c.in-Guard.body in
    if_ok c.ask_process-in-Guard.result
    (λ _. asked_guard script o names s p c.ask_expression.new.self c.ask_process-in-Guard.new.self (expression_of c.in-Guard.condition)
    (process_of c.in-Guard.body) is c.in_ok-ask_expression-in-Guard.ensures)
    c.ask_process-in-Guard.ensures

pub returns-in_ok-ask_process-in-If : goal.returns-in_ok-ask_process-in-If
returns-in_ok-ask_process-in-If g t c =
    let script = script_of_parts c.args.script.now in
    let o = numbering_of c.args.numbering.now in
    let names = names_of c.args.names.now in
    let s = c.args.self.now in
    let p = process_of c.args.process.now in
    let is = sym c.form.ensures ∙ ap process_of_form c.in-If.is ∙ forms.of_conditional g.row.A.Denot c.in-If.condition c.in-If.first c.in-If.second in
    if_ok c.ask_process-in-If-2.result
    (λ _. asked_if script o names s p c.ask_expression-in-If.new.self c.ask_process-in-If.new.self c.ask_process-in-If-2.new.self
    (expression_of c.in-If.condition) (process_of c.in-If.first) (process_of c.in-If.second) is c.in_ok-ask_expression-in-If.ensures
    c.in_ok-ask_process-in-If.ensures)
    c.ask_process-in-If-2.ensures

pub returns-in_ok-ask_process-in-Binary : goal.returns-in_ok-ask_process-in-Binary
returns-in_ok-ask_process-in-Binary g t c =
    let script = script_of_parts c.args.script.now in
    let o = numbering_of c.args.numbering.now in
    let names = names_of c.args.names.now in
    let s = c.args.self.now in
    let p = process_of c.args.process.now in
    let is = sym c.form.ensures ∙ ap process_of_form c.in-Binary.is ∙ forms.of_binary g.row.A.Denot c.in-Binary.field-0 c.in-Binary.left c.in-Binary.right in
    if_ok c.ask_process-in-Binary-2.result
    (λ _. asked_binary script o names s p c.ask_process-in-Binary.new.self c.ask_process-in-Binary-2.new.self c.in-Binary.field-0
    (process_of c.in-Binary.left) (process_of c.in-Binary.right) is c.in_ok-ask_process-in-Binary.ensures)
    c.ask_process-in-Binary-2.ensures

pub returns-in_ok-ask_event_set-in-GeneralisedParallel : goal.returns-in_ok-ask_event_set-in-GeneralisedParallel
returns-in_ok-ask_event_set-in-GeneralisedParallel g t c =
    let script = script_of_parts c.args.script.now in
    let o = numbering_of c.args.numbering.now in
    let names = names_of c.args.names.now in
    let s = c.args.self.now in
    let p = process_of c.args.process.now in
    let is = sym c.form.ensures ∙ ap process_of_form c.in-GeneralisedParallel.is
    ∙ forms.of_generalised g.row.A.Denot c.in-GeneralisedParallel.left c.in-GeneralisedParallel.shared c.in-GeneralisedParallel.right in
    if_ok c.ask_process-in-GeneralisedParallel-2.result
    (λ _. asked_generalised script o names s p c.ask_process-in-GeneralisedParallel.new.self c.ask_event_set.new.self
    c.ask_process-in-GeneralisedParallel-2.new.self (process_of c.in-GeneralisedParallel.left) (process_of c.in-GeneralisedParallel.right)
    (event_set_of c.in-GeneralisedParallel.shared) is c.in_ok-ask_process-in-GeneralisedParallel.ensures
    c.in_ok-ask_event_set-in-GeneralisedParallel.ensures)
    c.ask_process-in-GeneralisedParallel-2.ensures

pub returns-in_ok-ask_event_set-in-AlphabetisedParallel-2 : goal.returns-in_ok-ask_event_set-in-AlphabetisedParallel-2
returns-in_ok-ask_event_set-in-AlphabetisedParallel-2 g t c =
    let script = script_of_parts c.args.script.now in
    let o = numbering_of c.args.numbering.now in
    let names = names_of c.args.names.now in
    let s = c.args.self.now in
    let p = process_of c.args.process.now in
    let is = sym c.form.ensures ∙ ap process_of_form c.in-AlphabetisedParallel.is
    ∙ forms.of_alphabetised g.row.A.Denot c.in-AlphabetisedParallel.left c.in-AlphabetisedParallel.own c.in-AlphabetisedParallel.other c.in-AlphabetisedParallel.right in
    if_ok c.ask_process-in-AlphabetisedParallel-2.result
    (λ _. asked_alphabetised script o names s p c.ask_process-in-AlphabetisedParallel.new.self c.ask_event_set-in-AlphabetisedParallel.new.self
    c.ask_event_set-in-AlphabetisedParallel-2.new.self c.ask_process-in-AlphabetisedParallel-2.new.self (process_of c.in-AlphabetisedParallel.left)
    (process_of c.in-AlphabetisedParallel.right) (event_set_of c.in-AlphabetisedParallel.own) (event_set_of c.in-AlphabetisedParallel.other) is
    c.in_ok-ask_process-in-AlphabetisedParallel.ensures c.in_ok-ask_event_set-in-AlphabetisedParallel.ensures
    c.in_ok-ask_event_set-in-AlphabetisedParallel-2.ensures)
    c.ask_process-in-AlphabetisedParallel-2.ensures

pub returns-in_ok-ask_process-in-Hiding : goal.returns-in_ok-ask_process-in-Hiding
returns-in_ok-ask_process-in-Hiding g t c =
    let script = script_of_parts c.args.script.now in
    let o = numbering_of c.args.numbering.now in
    let names = names_of c.args.names.now in
    let s = c.args.self.now in
    let p = process_of c.args.process.now in
    let is = sym c.form.ensures ∙ ap process_of_form c.in-Hiding.is ∙ forms.of_hiding g.row.A.Denot c.in-Hiding.body c.in-Hiding.hidden in
    if_ok c.ask_event_set-in-Hiding.result
    (λ _. asked_hiding script o names s p c.ask_process-in-Hiding.new.self c.ask_event_set-in-Hiding.new.self (process_of c.in-Hiding.body)
    (event_set_of c.in-Hiding.hidden) is c.in_ok-ask_process-in-Hiding.ensures)
    c.ask_event_set-in-Hiding.ensures

pub returns-in_ok-ask_process-in-Renaming : goal.returns-in_ok-ask_process-in-Renaming
returns-in_ok-ask_process-in-Renaming g t c =
    let script = script_of_parts c.args.script.now in
    let o = numbering_of c.args.numbering.now in
    let names = names_of c.args.names.now in
    let s = c.args.self.now in
    let p = process_of c.args.process.now in
    let is = sym c.form.ensures ∙ ap process_of_form c.in-Renaming.is ∙ forms.of_renaming g.row.A.Denot c.in-Renaming.body c.in-Renaming.pairs
    ∙ ap (λ rs. Renaming (process_of c.in-Renaming.body) (renaming_pairs_of rs)) (sym c.deref-in-Renaming.ensures.value) in
    if_ok c.ask_pairs.result
    (λ _. asked_renaming script o names s p c.ask_process-in-Renaming.new.self c.ask_pairs.new.self (process_of c.in-Renaming.body)
    (renaming_pairs_of c.deref-in-Renaming.result.now) is c.in_ok-ask_process-in-Renaming.ensures)
    c.ask_pairs.ensures

pub returns-in_ok-bind_name-in-Replicated : goal.returns-in_ok-bind_name-in-Replicated
returns-in_ok-bind_name-in-Replicated g t c =
    let script = script_of_parts c.args.script.now in
    let o = numbering_of c.args.numbering.now in
    let names = names_of c.args.names.now in
    let s = c.args.self.now in
    let p = process_of c.args.process.now in
    let is = sym c.form.ensures ∙ ap process_of_form c.in-Replicated.is ∙ forms.of_replicated g.row.A.Denot c.in-Replicated.field-0 c.in-Replicated.name c.in-Replicated.set c.in-Replicated.body in
    if_ok c.ask_process-in-Replicated.result
    (λ _. asked_replicated script o names s p c.fresh.new.self c.ask_expression-in-Replicated.new.self c.ask_process-in-Replicated.new.self
    c.in-Replicated.field-0 c.in-Replicated.name.0 c.in_ok-number-in-Replicated.number.0 (expression_of c.in-Replicated.set)
    (process_of c.in-Replicated.body) (names_of c.deref-in-Replicated.result.now) is c.in_ok-number-in-Replicated.ensures.number
    (ap names_of c.deref-in-Replicated.ensures.value ∙ c.in_ok-bind_name-in-Replicated.ensures
    ∙ ap (λ xs. (c.in-Replicated.name.0, c.in_ok-number-in-Replicated.number.0) ∷ names_of xs) c.in_ok-inner-in-Replicated.ensures.items)
    c.in_ok-number-in-Replicated.ensures.behind c.in_ok-ask_expression-in-Replicated.ensures)
    c.ask_process-in-Replicated.ensures

pub returns-in_ok-ask_process-in-SlidingChoice : goal.returns-in_ok-ask_process-in-SlidingChoice
returns-in_ok-ask_process-in-SlidingChoice g t c =
    let script = script_of_parts c.args.script.now in
    let o = numbering_of c.args.numbering.now in
    let names = names_of c.args.names.now in
    let s = c.args.self.now in
    let p = process_of c.args.process.now in
    let is = sym c.form.ensures ∙ ap process_of_form c.in-SlidingChoice.is ∙ forms.of_sliding g.row.A.Denot c.in-SlidingChoice.left c.in-SlidingChoice.right in
    if_ok c.ask_process-in-SlidingChoice-2.result
    (λ _. asked_sliding script o names s p c.ask_process-in-SlidingChoice.new.self c.ask_process-in-SlidingChoice-2.new.self
    (process_of c.in-SlidingChoice.left) (process_of c.in-SlidingChoice.right) is c.in_ok-ask_process-in-SlidingChoice.ensures)
    c.ask_process-in-SlidingChoice-2.ensures
