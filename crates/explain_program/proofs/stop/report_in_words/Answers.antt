-- The line of a number that no assertion has.
use Rattle.std.proofs.Common.{sym, subst}
use Rattle.program.specs.Given.{sent}
use Rattle.program.specs.Running.{IsGiven}
use Rattle.explain_settings.specs.declared.format.Format.TheVariants as formats
use Rattle.explain_program.specs.Refusals.{stop_line}
use Rattle.explain_program.specs.declared.stop.Stop.{Stop}
use Rattle.explain_program.proofs.stop.report_in_words.Goals as goal

pub returns-in-NoAssertion-clause-line : goal.returns-in-NoAssertion-clause-line
returns-in-NoAssertion-clause-line g c =
    let new = c.refuse_words.new.err in
    let P : Stop → Type 0 = λ why. IsGiven (sent g.E.Sink.taken g.E.Sink.has_failed c.args.err.now new) (stop_line formats.Text why) in
    subst P (sym c.in-NoAssertion.is) c.refuse_words.ensures.text
