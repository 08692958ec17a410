use Rattle.std.proofs.Common.{◌∙◌, true, false, refl, sym}
use Rattle.theory_reader.specs.Reader.{body}
use Rattle.csp_parse.specs.Reading.{standing_of}
use Rattle.csp_parse.proofs.Steps.{hands}
use Rattle.csp_parse.proofs.Declared.{side_reads}
use Rattle.csp_parse.proofs.parsers.Parser.first_side.Goals as goal

pub returns-in_err-word-clause-reads : goal.returns-in_err-word-clause-reads
unfolding body
returns-in_err-word-clause-reads g c =
    hands _ _ _ _ _ _ c.from_residual.ensures c.in_err-word.ensures.reads (λ h e. side_reads (standing_of c.args.self.now) true (sym c.is_at_word.ensures ∙ c.if-is_at_word.true) ∙ rw e refl)

pub returns-in_err-process-clause-reads : goal.returns-in_err-process-clause-reads
unfolding body
returns-in_err-process-clause-reads g c =
    hands _ _ _ _ _ _ c.from_residual-in_err-process.ensures c.in_err-process.ensures.reads (λ h e. side_reads (standing_of c.args.self.now) true (sym c.is_at_word.ensures ∙ c.if-is_at_word.true) ∙ rw (c.in_ok-word.ensures.reads, e) refl)

pub returns-then-is_at_word-clause-reads : goal.returns-then-is_at_word-clause-reads
unfolding body
returns-then-is_at_word-clause-reads g c =
    side_reads (standing_of c.args.self.now) true (sym c.is_at_word.ensures ∙ c.if-is_at_word.true) ∙ rw (c.in_ok-word.ensures.reads, c.in_ok-process.ensures.reads) refl

pub returns-in_err-process-2-clause-reads : goal.returns-in_err-process-2-clause-reads
unfolding body
returns-in_err-process-2-clause-reads g c =
    hands _ _ _ _ _ _ c.from_residual-in_err-process-2.ensures c.in_err-process-2.ensures.reads (λ h e. side_reads (standing_of c.args.self.now) false (sym c.is_at_word.ensures ∙ c.if-is_at_word.false) ∙ rw e refl)

pub returns-clause-reads : goal.returns-clause-reads
unfolding body
returns-clause-reads g c = side_reads (standing_of c.args.self.now) false (sym c.is_at_word.ensures ∙ c.if-is_at_word.false) ∙ rw c.in_ok-process-2.ensures.reads refl
