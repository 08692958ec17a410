use Rattle.std.proofs.Common.{refl}
use Rattle.theory_reader.specs.Reader.{body}
use Rattle.theory_reader.proofs.Laws.{reads_is}
use Rattle.csp_parse.proofs.Steps.{hands}
use Rattle.csp_parse.proofs.parsers.Parser.equation_with.Goals as goal

pub returns-in_err-sign-clause-reads : goal.returns-in_err-sign-clause-reads
unfolding body
returns-in_err-sign-clause-reads g c = hands _ _ _ _ _ _ c.from_residual.ensures c.in_err-sign.ensures.reads (λ h e. rw (reads_is, e) refl)

pub returns-in_err-parameters-clause-reads : goal.returns-in_err-parameters-clause-reads
unfolding body
returns-in_err-parameters-clause-reads g c =
    hands _ _ _ _ _ _ c.from_residual-in_err-parameters.ensures c.in_err-parameters.ensures.reads (λ h e. rw (reads_is, c.in_ok-sign.ensures.reads, e) refl)

pub returns-in_err-sign-2-clause-reads : goal.returns-in_err-sign-2-clause-reads
unfolding body
returns-in_err-sign-2-clause-reads g c =
    hands _ _ _ _ _ _ c.from_residual-in_err-sign-2.ensures c.in_err-sign-2.ensures.reads (λ h e. rw (reads_is, c.in_ok-sign.ensures.reads, c.in_ok-parameters.ensures.reads, e) refl)

pub returns-in_err-body-clause-reads : goal.returns-in_err-body-clause-reads
unfolding body
returns-in_err-body-clause-reads g c =
    hands _ _ _ _ _ _ c.from_residual-in_err-body.ensures c.in_err-body.ensures.reads (λ h e. rw (reads_is, c.in_ok-sign.ensures.reads, c.in_ok-parameters.ensures.reads, c.in_ok-sign-2.ensures.reads, e) refl)

pub returns-clause-reads : goal.returns-clause-reads
unfolding body
returns-clause-reads g c = rw (reads_is, c.in_ok-sign.ensures.reads, c.in_ok-parameters.ensures.reads, c.in_ok-sign-2.ensures.reads, c.in_ok-body.ensures.reads) refl
