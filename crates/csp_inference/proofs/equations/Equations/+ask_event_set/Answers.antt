use Rattle.std.proofs.Common.{ap, sym}
use Rattle.theory_checking.specs.Inference.Processes.{behind_event_set, of_event_set}
use Rattle.csp_expression.specs.Evaluation.{table_of}
use Rattle.csp_events.specs.Events.{event_set_of}
use Rattle.csp_inference.specs.Numbering.{names_of, numbering_of}
use Rattle.csp_inference.proofs.Adding.{if_ok}
use Rattle.csp_inference.proofs.Asking.{asks_same}
use Rattle.csp_inference.proofs.AskingEvents.{asked_beginnings, asked_combined, asked_events, behind_asked_events, of_combine, of_enumeration, of_productions}
use Rattle.csp_inference.proofs.equations.Equations.+ask_event_set.Goals as goal

pub returns-in-Enumeration : goal.returns-in-Enumeration
returns-in-Enumeration g t c =
    let types = table_of c.args.types.now in
    let o = numbering_of c.args.numbering.now in
    let names = names_of c.args.names.now in
    let s = c.args.self.now in
    let set = c.args.set.now in
    let read = c.deref.result.now in
    let is = sym (of_enumeration set c.in-Enumeration.events read c.in-Enumeration.is c.deref.ensures.value) in
    if_ok c.ask_events.result
    (λ _. asks_same s c.ask_events.new.self (asked_events types o names s.next read) (of_event_set types o s.next names (event_set_of set))
    (behind_asked_events s.next read) (behind_event_set s.next (event_set_of set)) (ap (of_event_set types o s.next names) is)
    (ap (behind_event_set s.next) is)) c.ask_events.ensures

pub returns-in-Productions : goal.returns-in-Productions
returns-in-Productions g t c =
    let types = table_of c.args.types.now in
    let o = numbering_of c.args.numbering.now in
    let names = names_of c.args.names.now in
    let s = c.args.self.now in
    let set = c.args.set.now in
    let read = c.deref-in-Productions.result.now in
    let is = sym (of_productions set c.in-Productions.events read c.in-Productions.is c.deref-in-Productions.ensures.value) in
    if_ok c.ask_beginnings.result
    (λ _. asks_same s c.ask_beginnings.new.self (asked_beginnings types o names s.next read) (of_event_set types o s.next names (event_set_of set))
    (behind_asked_events s.next read) (behind_event_set s.next (event_set_of set)) (ap (of_event_set types o s.next names) is)
    (ap (behind_event_set s.next) is)) c.ask_beginnings.ensures

pub returns-in_ok-ask_event_set-in-Combine : goal.returns-in_ok-ask_event_set-in-Combine
returns-in_ok-ask_event_set-in-Combine g t c =
    let set = c.args.set.now in
    if_ok c.ask_event_set-in-Combine.result
    (λ _. asked_combined (table_of c.args.types.now) (numbering_of c.args.numbering.now) (names_of c.args.names.now) c.args.self.now c.ask_event_set.new.self
    c.ask_event_set-in-Combine.new.self c.in-Combine.field-0 (event_set_of c.deref-in-Combine.result.now) (event_set_of c.deref-in-Combine-2.result.now)
    (event_set_of set)
    (of_combine set c.in-Combine.field-0 c.in-Combine.left c.in-Combine.right c.deref-in-Combine.result.now c.deref-in-Combine-2.result.now c.in-Combine.is
    c.deref-in-Combine.ensures c.deref-in-Combine-2.ensures) c.in_ok-ask_event_set-in-Combine.ensures)
    c.ask_event_set-in-Combine.ensures
