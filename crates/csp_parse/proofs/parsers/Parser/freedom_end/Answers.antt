use Rattle.std.proofs.Common.{◌∙◌, true, false, refl, sym}
use Rattle.theory_reader.specs.Reader.{body}
use Rattle.csp_parse.specs.Reading.{standing_of}
use Rattle.csp_parse.proofs.Steps.{hands, goes_on}
use Rattle.csp_parse.proofs.Declared.{end_reads}
use Rattle.csp_parse.proofs.Spellings.{spelling_so, failures_written}
use Rattle.csp_parse.proofs.parsers.Parser.freedom_end.Goals as goal

pub returns-then-is_at-clause-reads : goal.returns-then-is_at-clause-reads
unfolding body
returns-then-is_at-clause-reads g c = goes_on _ _ _ _ _ c.sign.ensures.reads (end_reads (standing_of c.args.self.now) true (sym c.is_at.ensures ∙ c.if-is_at.true))

pub returns-in_err-sign-clause-reads : goal.returns-in_err-sign-clause-reads
unfolding body
returns-in_err-sign-clause-reads g c =
    hands _ _ _ _ _ _ c.from_residual.ensures c.in_err-sign.ensures.reads (λ h e. end_reads (standing_of c.args.self.now) false (sym c.is_at.ensures ∙ c.if-is_at.false) ∙ rw e refl)

pub returns-in_err-spelling-clause-reads : goal.returns-in_err-spelling-clause-reads
unfolding body
returns-in_err-spelling-clause-reads g c =
    hands _ _ _ _ _ _ c.from_residual-in_err-spelling.ensures c.in_err-spelling.ensures.reads (λ h e. end_reads (standing_of c.args.self.now) false (sym c.is_at.ensures ∙ c.if-is_at.false) ∙ rw (c.in_ok-sign.ensures.reads, spelling_so _ failures_written e) refl)

pub returns-clause-reads : goal.returns-clause-reads
unfolding body
returns-clause-reads g c =
    goes_on _ _ _ _ _ c.double_end.ensures.reads (end_reads (standing_of c.args.self.now) false (sym c.is_at.ensures ∙ c.if-is_at.false) ∙ rw (c.in_ok-sign.ensures.reads, spelling_so _ failures_written c.in_ok-spelling.ensures.reads) refl)
