use Rattle.std.proofs.Common.{refl}
use Rattle.theory_reader.specs.Reader.{body}
use Rattle.theory_reader.proofs.Laws.{reads_is}
use Rattle.csp_parse.proofs.Steps.{hands, refused}
use Rattle.csp_parse.proofs.parsers.Parser.call_of.Goals as goal

pub returns-in_err-arguments-clause-reads : goal.returns-in_err-arguments-clause-reads
unfolding body
returns-in_err-arguments-clause-reads g c = hands _ _ _ _ _ _ c.from_residual.ensures c.in_err-arguments.ensures.reads (λ h e. rw (reads_is, e) refl)

pub returns-in_err-call-clause-reads : goal.returns-in_err-call-clause-reads
unfolding body
returns-in_err-call-clause-reads g c = hands _ _ _ _ _ _ c.from_residual-in_err-call.ensures (refused _ _ _ c.in_err-call.ensures.stops) (λ h e. e)

pub returns-clause-reads : goal.returns-clause-reads
unfolding body
returns-clause-reads g c = rw (reads_is, c.in_ok-arguments.ensures.reads, c.in_ok-call.ensures.makes) refl
