use Rattle.std.proofs.Common.{refl}
use Rattle.theory_reader.specs.Reader.{body}
use Rattle.theory_reader.proofs.Laws.{reads_is}
use Rattle.csp_parse.proofs.Steps.{hands}
use Rattle.csp_parse.proofs.parsers.Parser.datatype.Goals as goal

pub returns-in_err-word-clause-reads : goal.returns-in_err-word-clause-reads
unfolding body
returns-in_err-word-clause-reads g c = hands _ _ _ _ _ _ c.from_residual.ensures c.in_err-word.ensures.reads (λ h e. rw (reads_is, e) refl)

pub returns-in_err-name-clause-reads : goal.returns-in_err-name-clause-reads
unfolding body
returns-in_err-name-clause-reads g c =
    hands _ _ _ _ _ _ c.from_residual-in_err-name.ensures c.in_err-name.ensures.reads (λ h e. rw (reads_is, c.in_ok-word.ensures.reads, e) refl)

pub returns-in_err-sign-clause-reads : goal.returns-in_err-sign-clause-reads
unfolding body
returns-in_err-sign-clause-reads g c =
    hands _ _ _ _ _ _ c.from_residual-in_err-sign.ensures c.in_err-sign.ensures.reads (λ h e. rw (reads_is, c.in_ok-word.ensures.reads, c.in_ok-name.ensures.reads, e) refl)

pub returns-in_err-clauses-clause-reads : goal.returns-in_err-clauses-clause-reads
unfolding body
returns-in_err-clauses-clause-reads g c =
    hands _ _ _ _ _ _ c.from_residual-in_err-clauses.ensures c.in_err-clauses.ensures.reads (λ h e. rw (reads_is, c.in_ok-word.ensures.reads, c.in_ok-name.ensures.reads, c.in_ok-sign.ensures.reads, e) refl)

pub returns-clause-reads : goal.returns-clause-reads
unfolding body
returns-clause-reads g c = rw (reads_is, c.in_ok-word.ensures.reads, c.in_ok-name.ensures.reads, c.in_ok-sign.ensures.reads, c.in_ok-clauses.ensures.reads) refl
