use Rattle.std.proofs.Common.{map}
use Rattle.std.specs.Prelude.{slice_get}
use Rattle.theory_checking.specs.Inference.Processes.{behind_fields, of_fields}
use Rattle.csp_expression.specs.Evaluation.{table_of}
use Rattle.csp_term.specs.Field.{fields_of}
use Rattle.csp_inference.specs.Numbering.{names_of, numbering_of}
use Rattle.csp_inference.proofs.Adding.{if_ok}
use Rattle.csp_inference.proofs.Asking.{found_at, none_asks, not_found}
use Rattle.csp_inference.proofs.AskingFields.{asked_prefix, named_prefix, unnamed_prefix}
use Rattle.csp_inference.proofs.equations.Equations.ask_prefix.Goals as goal

pub returns-clause-asks : goal.returns-clause-asks
returns-clause-asks g c =
    let found = found_at c.deref.result.now c.args.numbering.now.channels.items c.args.channel.0 c.in-Some.numbers.now c.deref.ensures.value c.in-Some.ensures.lookup.3.0 c.in-Some.ensures.lookup.1 in
    if_ok c.ask_fields.result
    (λ _. asked_prefix (table_of c.args.types.now) (names_of c.args.names.now) c.args.self.now c.ask_fields.new.self c.args.numbering.now c.args.channel.0
    c.in-Some.numbers.now (fields_of c.args.fields.now) c.deref-2.result.now found c.deref-2.ensures.value) c.ask_fields.ensures.asks

pub returns-clause-names : goal.returns-clause-names
returns-clause-names g c =
    let found = found_at c.deref.result.now c.args.numbering.now.channels.items c.args.channel.0 c.in-Some.numbers.now c.deref.ensures.value c.in-Some.ensures.lookup.3.0 c.in-Some.ensures.lookup.1 in
    if_ok c.ask_fields.result
    (λ inner. named_prefix (table_of c.args.types.now) (names_of c.args.names.now) c.args.self.now c.ask_fields.new.self c.args.numbering.now
    c.args.channel.0 c.in-Some.numbers.now (fields_of c.args.fields.now) c.deref-2.result.now found c.deref-2.ensures.value (names_of inner.items))
    c.ask_fields.ensures.names

pub returns-in_default-clause-asks : goal.returns-in_default-clause-asks
returns-in_default-clause-asks g c =
    let none = not_found (λ ns. map (λ n. n.0) ns.items) c.deref.result.now c.args.numbering.now.channels.items c.args.channel.0 c.deref.ensures.value c.in_default.ensures.lookup.3 in
    none_asks c.args.self.now c.push_never.new.self (slice_get (numbering_of c.args.numbering.now).channels c.args.channel.0)
    (of_fields (table_of c.args.types.now) (numbering_of c.args.numbering.now) c.args.self.now.next (names_of c.args.names.now) (fields_of c.args.fields.now))
    c.args.self.now.next (behind_fields c.args.self.now.next (fields_of c.args.fields.now)) none c.in_ok-push_never.ensures

pub returns-in_default-clause-names : goal.returns-in_default-clause-names
returns-in_default-clause-names g c = unnamed_prefix c.args.self.now c.push_never.new.self _ _ c.args.self.now.next c.in_ok-push_never.ensures
