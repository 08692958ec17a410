use Rattle.std.proofs.Common.{refl}
use Rattle.theory_reader.specs.Reader.{body}
use Rattle.theory_reader.proofs.Laws.{reads_is}
use Rattle.csp_parse.proofs.Steps.{hands}
use Rattle.csp_parse.proofs.parsers.Parser.event.Goals as goal

pub returns-in_err-channel-clause-reads : goal.returns-in_err-channel-clause-reads
unfolding body
returns-in_err-channel-clause-reads g c = hands _ _ _ _ _ _ c.from_residual.ensures c.in_err-channel.ensures.reads (λ h e. rw (reads_is, e) refl)

pub returns-in_err-fields-clause-reads : goal.returns-in_err-fields-clause-reads
unfolding body
returns-in_err-fields-clause-reads g c = hands _ _ _ _ _ _ c.from_residual-in_err-fields.ensures c.in_err-fields.ensures.reads (λ h e. rw (reads_is, c.in_ok-channel.ensures.reads, e) refl)

pub returns-clause-reads : goal.returns-clause-reads
unfolding body
returns-clause-reads g c = rw (reads_is, c.in_ok-channel.ensures.reads, c.in_ok-fields.ensures.reads) refl
