use Rattle.std.proofs.Common.{refl}
use Rattle.theory_reader.specs.Reader.{body}
use Rattle.theory_reader.proofs.Laws.{reads_is}
use Rattle.csp_parse.proofs.Steps.{hands, goes_on}
use Rattle.csp_parse.proofs.Spellings.{spelling_so, divergence_written, free_written}
use Rattle.csp_parse.proofs.parsers.Parser.divergence_free.Goals as goal

pub returns-in_err-spelling-clause-reads : goal.returns-in_err-spelling-clause-reads
unfolding body
returns-in_err-spelling-clause-reads g c =
    hands _ _ _ _ _ _ c.from_residual.ensures c.in_err-spelling.ensures.reads (λ h e. rw (reads_is, spelling_so _ divergence_written e) refl)

pub returns-in_err-spelling-2-clause-reads : goal.returns-in_err-spelling-2-clause-reads
unfolding body
returns-in_err-spelling-2-clause-reads g c =
    hands _ _ _ _ _ _ c.from_residual-in_err-spelling-2.ensures c.in_err-spelling-2.ensures.reads (λ h e. rw (reads_is, spelling_so _ divergence_written c.in_ok-spelling.ensures.reads, spelling_so _ free_written e) refl)

pub returns-clause-reads : goal.returns-clause-reads
unfolding body
returns-clause-reads g c =
    goes_on _ _ _ _ _ c.sign.ensures.reads (rw (reads_is, spelling_so _ divergence_written c.in_ok-spelling.ensures.reads, spelling_so _ free_written c.in_ok-spelling-2.ensures.reads) refl)
