use Rattle.std.proofs.Common.{◌∙◌, true, false, refl, sym, ap}
use Rattle.theory_reader.specs.Reader.{body}
use Rattle.theory_reader.proofs.Laws.{reads_is}
use Rattle.csp_parse.specs.Reading.{left_of}
use Rattle.csp_parse.proofs.Steps.{hands}
use Rattle.csp_parse.proofs.Declared.{freedom_reads}
use Rattle.csp_parse.proofs.Spellings.{divergence_written}
use Rattle.theory_reader.specs.Reader.{is_spelled}
use Rattle.theory_reader.specs.Programs.{first}
use Rattle.csp_parse.proofs.parsers.Parser.freedom.Goals as goal

pub returns-in_err-sign-clause-reads : goal.returns-in_err-sign-clause-reads
unfolding body
returns-in_err-sign-clause-reads g c = hands _ _ _ _ _ _ c.from_residual.ensures c.in_err-sign.ensures.reads (λ h e. rw (reads_is, e) refl)

pub returns-in_err-divergence_free-clause-reads : goal.returns-in_err-divergence_free-clause-reads
unfolding body
returns-in_err-divergence_free-clause-reads g c =
    hands _ _ _ _ _ _ c.from_residual-in_err-divergence_free.ensures c.in_err-divergence_free.ensures.reads (λ h e. freedom_reads _ _ true c.in_ok-sign.ensures.reads (ap (λ cs. is_spelled cs (first (left_of c.sign.new.self))) (sym divergence_written) ∙ sym c.is_at_spelling.ensures ∙ c.if-is_at_spelling.true) ∙ rw e refl)

pub returns-then-is_at_spelling-clause-reads : goal.returns-then-is_at_spelling-clause-reads
unfolding body
returns-then-is_at_spelling-clause-reads g c =
    freedom_reads _ _ true c.in_ok-sign.ensures.reads (ap (λ cs. is_spelled cs (first (left_of c.sign.new.self))) (sym divergence_written) ∙ sym c.is_at_spelling.ensures ∙ c.if-is_at_spelling.true) ∙ rw c.in_ok-divergence_free.ensures.reads refl

pub returns-in_err-deadlock_free-clause-reads : goal.returns-in_err-deadlock_free-clause-reads
unfolding body
returns-in_err-deadlock_free-clause-reads g c =
    hands _ _ _ _ _ _ c.from_residual-in_err-deadlock_free.ensures c.in_err-deadlock_free.ensures.reads (λ h e. freedom_reads _ _ false c.in_ok-sign.ensures.reads (ap (λ cs. is_spelled cs (first (left_of c.sign.new.self))) (sym divergence_written) ∙ sym c.is_at_spelling.ensures ∙ c.if-is_at_spelling.false) ∙ rw e refl)

pub returns-clause-reads : goal.returns-clause-reads
unfolding body
returns-clause-reads g c =
    freedom_reads _ _ false c.in_ok-sign.ensures.reads (ap (λ cs. is_spelled cs (first (left_of c.sign.new.self))) (sym divergence_written) ∙ sym c.is_at_spelling.ensures ∙ c.if-is_at_spelling.false) ∙ rw c.in_ok-deadlock_free.ensures.reads refl
