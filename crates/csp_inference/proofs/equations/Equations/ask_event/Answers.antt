use Rattle.csp_expression.specs.Evaluation.{table_of}
use Rattle.csp_inference.specs.Numbering.{names_of}
use Rattle.csp_inference.proofs.Asking.{found_at}
use Rattle.csp_inference.proofs.AskingEvents.{asked_fields_all}
use Rattle.csp_inference.proofs.equations.Equations.ask_event.Goals as goal

pub returns : goal.returns
returns g c =
    let found = found_at c.deref.result.now c.args.numbering.now.channels.items c.args.event.now.channel.0 c.in-Some.numbers.now c.deref.ensures.value
    c.in-Some.ensures.lookup.3.0 c.in-Some.ensures.lookup.1 in
    asked_fields_all (table_of c.args.types.now) (names_of c.args.names.now) c.args.self.now c.ask_all.new.self c.args.numbering.now c.args.event.now
    c.in-Some.numbers.now c.deref-2.result.now c.deref-3.result.now found c.deref-2.ensures.value c.deref-3.ensures.value c.in_ok-ask_all.ensures
