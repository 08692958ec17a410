-- Each reason has its line.
use Rattle.std.proofs.Common.{sym, subst}
use Rattle.state_graph.specs.declared.stop.Stop.{Stop}
use Rattle.program.specs.Given.{sent}
use Rattle.program.specs.Running.{IsGiven}
use Rattle.graph_program.specs.Stops.{no_graph_line}
use Rattle.graph_program.proofs.stop.report_no_graph.Goals as goal

pub returns-in-States-clause-line : goal.returns-in-States-clause-line
returns-in-States-clause-line g c =
    let new = c.refuse_words.new.err in
    let P : Stop → Type 0 = λ why. IsGiven (sent g.E.Sink.taken g.E.Sink.has_failed c.args.err.now new) (no_graph_line why) in
    subst P (sym c.in-States.is) c.refuse_words.ensures.text

pub returns-in-Fault-clause-line : goal.returns-in-Fault-clause-line
returns-in-Fault-clause-line g c =
    let new = c.report_fault.new.err in
    let P : Stop → Type 0 = λ why. IsGiven (sent g.E.Sink.taken g.E.Sink.has_failed c.args.err.now new) (no_graph_line why) in
    subst P (sym c.in-Fault.is) c.report_fault.ensures.line

pub returns-in-Term-clause-line : goal.returns-in-Term-clause-line
returns-in-Term-clause-line g c =
    let new = c.refuse_words-in-Term.new.err in
    let P : Stop → Type 0 = λ why. IsGiven (sent g.E.Sink.taken g.E.Sink.has_failed c.args.err.now new) (no_graph_line why) in
    subst P (sym c.in-Term.is) c.refuse_words-in-Term.ensures.text
