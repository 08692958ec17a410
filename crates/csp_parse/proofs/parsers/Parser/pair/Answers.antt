use Rattle.std.proofs.Common.{refl}
use Rattle.theory_reader.specs.Reader.{body}
use Rattle.theory_reader.proofs.Laws.{reads_is}
use Rattle.csp_parse.proofs.Steps.{hands}
use Rattle.csp_parse.proofs.parsers.Parser.pair.Goals as goal

pub returns-in_err-from-clause-reads : goal.returns-in_err-from-clause-reads
unfolding body
returns-in_err-from-clause-reads g c = hands _ _ _ _ _ _ c.from_residual.ensures c.in_err-from.ensures.reads (λ h e. rw (reads_is, e) refl)

pub returns-in_err-sign-clause-reads : goal.returns-in_err-sign-clause-reads
unfolding body
returns-in_err-sign-clause-reads g c =
    hands _ _ _ _ _ _ c.from_residual-in_err-sign.ensures c.in_err-sign.ensures.reads (λ h e. rw (reads_is, c.in_ok-from.ensures.reads, e) refl)

pub returns-in_err-to-clause-reads : goal.returns-in_err-to-clause-reads
unfolding body
returns-in_err-to-clause-reads g c =
    hands _ _ _ _ _ _ c.from_residual-in_err-to.ensures c.in_err-to.ensures.reads (λ h e. rw (reads_is, c.in_ok-from.ensures.reads, c.in_ok-sign.ensures.reads, e) refl)

pub returns-clause-reads : goal.returns-clause-reads
unfolding body
returns-clause-reads g c = rw (reads_is, c.in_ok-from.ensures.reads, c.in_ok-sign.ensures.reads, c.in_ok-to.ensures.reads) refl
