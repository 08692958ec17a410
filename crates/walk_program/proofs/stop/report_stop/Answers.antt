-- Each stop has its line.
use Rattle.std.proofs.Common.{sym, subst}
use Rattle.program.specs.Given.{sent}
use Rattle.program.specs.Running.{IsGiven}
use Rattle.walk_program.specs.Stops.{stop_line}
use Rattle.walk_program.specs.declared.stop.Stop.{Stop}
use Rattle.walk_program.proofs.stop.report_stop.Goals as goal

pub returns-in-NoAssertion-clause-line : goal.returns-in-NoAssertion-clause-line
returns-in-NoAssertion-clause-line g c =
    let new = c.refuse_words.new.err in
    let P : Stop → Type 0 = λ why. IsGiven (sent g.E.Sink.taken g.E.Sink.has_failed c.args.err.now new) (stop_line why) in
    subst P (sym c.in-NoAssertion.is) c.refuse_words.ensures.text

pub returns-in-NoSpecification-clause-line : goal.returns-in-NoSpecification-clause-line
returns-in-NoSpecification-clause-line g c =
    let new = c.refuse_words-in-NoSpecification.new.err in
    let P : Stop → Type 0 = λ why. IsGiven (sent g.E.Sink.taken g.E.Sink.has_failed c.args.err.now new) (stop_line why) in
    subst P (sym c.in-NoSpecification.is) c.refuse_words-in-NoSpecification.ensures.text

pub returns-in-Input-clause-line : goal.returns-in-Input-clause-line
returns-in-Input-clause-line g c =
    let new = c.refuse_words-in-Input.new.err in
    let P : Stop → Type 0 = λ why. IsGiven (sent g.E.Sink.taken g.E.Sink.has_failed c.args.err.now new) (stop_line why) in
    subst P (sym c.in-Input.is) c.refuse_words-in-Input.ensures.text
