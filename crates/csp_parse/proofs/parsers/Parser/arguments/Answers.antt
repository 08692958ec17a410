use Rattle.std.proofs.Common.{refl}
use Rattle.theory_reader.specs.Reader.{body}
use Rattle.theory_reader.proofs.Laws.{reads_is}
use Rattle.csp_parse.proofs.Steps.{hands}
use Rattle.csp_parse.proofs.parsers.Parser.arguments.Goals as goal

pub returns-in_err-first-clause-reads : goal.returns-in_err-first-clause-reads
unfolding body
returns-in_err-first-clause-reads g c = hands _ _ _ _ _ _ c.from_residual.ensures c.in_err-first.ensures.reads (λ h e. rw (reads_is, e) refl)

pub returns-in_err-arguments-clause-reads : goal.returns-in_err-arguments-clause-reads
unfolding body
returns-in_err-arguments-clause-reads g c =
    hands _ _ _ _ _ _ c.from_residual-in_err-arguments.ensures c.in_err-arguments.ensures.reads (λ h e. rw (reads_is, c.in_ok-first.ensures.reads, e) refl)

pub returns-in_err-sign-clause-reads : goal.returns-in_err-sign-clause-reads
unfolding body
returns-in_err-sign-clause-reads g c =
    hands _ _ _ _ _ _ c.from_residual-in_err-sign.ensures c.in_err-sign.ensures.reads (λ h e. rw (reads_is, c.in_ok-first.ensures.reads, c.in_ok-arguments.ensures.reads, e) refl)

pub returns-clause-reads : goal.returns-clause-reads
unfolding body
returns-clause-reads g c = rw (reads_is, c.in_ok-first.ensures.reads, c.in_ok-arguments.ensures.reads, c.in_ok-sign.ensures.reads) refl
