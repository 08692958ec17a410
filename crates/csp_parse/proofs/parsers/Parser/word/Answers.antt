use Rattle.std.proofs.Common.{◌∙◌, refl, sym}
use Rattle.theory_reader.specs.Reader.{body, is_sign, is_word}
use Rattle.theory_reader.proofs.Laws.{reads_is}
use Rattle.csp_parse.proofs.Steps.{goes_on}
use Rattle.csp_parse.proofs.parsers.Parser.word.Goals as goal

pub returns-then-not-is_at_word-clause-reads : goal.returns-then-not-is_at_word-clause-reads
unfolding body is_sign is_word
returns-then-not-is_at_word-clause-reads g c = rw (reads_is, sym c.is_at_word.ensures ∙ c.if-not-is_at_word.true) refl

pub returns-clause-reads : goal.returns-clause-reads
unfolding body is_sign is_word
returns-clause-reads g c = goes_on _ _ _ _ _ c.pass.ensures.reads (rw (reads_is, sym c.is_at_word.ensures ∙ c.if-not-is_at_word.false) refl)
