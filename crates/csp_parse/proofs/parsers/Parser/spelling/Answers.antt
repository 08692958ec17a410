use Rattle.std.proofs.Common.{◌∙◌, true, false, sym}
use Rattle.theory_reader.specs.Reader.{body}
use Rattle.csp_parse.specs.Reading.{standing_of}
use Rattle.csp_parse.proofs.Steps.{goes_on}
use Rattle.csp_parse.proofs.Spellings.{spelling_reads}
use Rattle.std.specs.Str.{chars}
use Rattle.csp_parse.proofs.parsers.Parser.spelling.Goals as goal

pub returns-then-not-is_at_spelling-clause-reads : goal.returns-then-not-is_at_spelling-clause-reads
unfolding body
returns-then-not-is_at_spelling-clause-reads g c =
    spelling_reads (chars c.args.spelling.now) (standing_of c.args.self.now) false (sym c.is_at_spelling.ensures ∙ c.if-not-is_at_spelling.true)

pub returns-clause-reads : goal.returns-clause-reads
unfolding body
returns-clause-reads g c =
    goes_on _ _ _ _ _ c.pass.ensures.reads (spelling_reads (chars c.args.spelling.now) (standing_of c.args.self.now) true (sym c.is_at_spelling.ensures ∙ c.if-not-is_at_spelling.false))
