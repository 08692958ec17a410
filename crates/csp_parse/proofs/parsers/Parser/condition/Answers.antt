use Rattle.std.proofs.Common.{refl}
use Rattle.theory_reader.specs.Reader.{body}
use Rattle.theory_reader.proofs.Laws.{reads_is}
use Rattle.csp_parse.proofs.Steps.{hands, goes_on}
use Rattle.csp_parse.proofs.parsers.Parser.condition.Goals as goal

pub returns-in_err-word-clause-reads : goal.returns-in_err-word-clause-reads
unfolding body
returns-in_err-word-clause-reads g c = hands _ _ _ _ _ _ c.from_residual.ensures c.in_err-word.ensures.reads (λ h e. rw (reads_is, e) refl)

pub returns-clause-reads : goal.returns-clause-reads
unfolding body
returns-clause-reads g c = goes_on _ _ _ _ _ c.expression.ensures.reads (rw (reads_is, c.in_ok-word.ensures.reads) refl)
