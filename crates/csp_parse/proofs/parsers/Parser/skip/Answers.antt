use Rattle.std.proofs.Common.{refl}
use Rattle.theory_reader.specs.Reader.{body}
use Rattle.theory_reader.proofs.Laws.{reads_is}
use Rattle.csp_parse.proofs.Steps.{hands, refused}
use Rattle.csp_parse.proofs.parsers.Parser.skip.Goals as goal

pub returns-in_err-word-clause-reads : goal.returns-in_err-word-clause-reads
unfolding body
returns-in_err-word-clause-reads g c = hands _ _ _ _ _ _ c.from_residual.ensures c.in_err-word.ensures.reads (λ h e. rw (reads_is, e) refl)

pub returns-in_err-skip-clause-reads : goal.returns-in_err-skip-clause-reads
unfolding body
returns-in_err-skip-clause-reads g c = hands _ _ _ _ _ _ c.from_residual-in_err-skip.ensures (refused _ _ _ c.in_err-skip.ensures.stops) (λ h e. e)

pub returns-clause-reads : goal.returns-clause-reads
unfolding body
returns-clause-reads g c = rw (reads_is, c.in_ok-word.ensures.reads, c.in_ok-skip.ensures.makes) refl
