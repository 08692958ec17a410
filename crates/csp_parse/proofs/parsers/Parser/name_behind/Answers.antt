use Rattle.std.proofs.Common.{refl}
use Rattle.theory_reader.specs.Reader.{body}
use Rattle.theory_reader.proofs.Laws.{reads_is}
use Rattle.csp_parse.proofs.Steps.{hands, goes_on}
use Rattle.csp_parse.proofs.parsers.Parser.name_behind.Goals as goal

pub returns-in_err-sign-clause-reads : goal.returns-in_err-sign-clause-reads
unfolding body
returns-in_err-sign-clause-reads g c = hands _ _ _ _ _ _ c.from_residual.ensures c.in_err-sign.ensures.reads (λ h e. rw (reads_is, e) refl)

pub returns-clause-reads : goal.returns-clause-reads
unfolding body
returns-clause-reads g c = goes_on _ _ _ _ _ c.name.ensures.reads (rw (reads_is, c.in_ok-sign.ensures.reads) refl)
