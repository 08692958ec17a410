use Rattle.std.proofs.Common.{◌∙◌, true, false, refl, sym}
use Rattle.theory_reader.specs.Reader.{body}
use Rattle.csp_parse.specs.Reading.{standing_of}
use Rattle.csp_parse.proofs.Steps.{goes_on}
use Rattle.csp_parse.proofs.Declared.{declaration_reads}
use Rattle.csp_parse.proofs.parsers.Parser.declaration.Goals as goal

pub returns-then-is_at_word-clause-reads : goal.returns-then-is_at_word-clause-reads
unfolding body
returns-then-is_at_word-clause-reads g c =
    goes_on _ _ _ _ _ c.datatype.ensures.reads (declaration_reads (standing_of c.args.self.now) true _ _ _ _ (sym c.is_at_word.ensures ∙ c.if-is_at_word.true) refl refl refl refl)

pub returns-then-is_at_word-2-clause-reads : goal.returns-then-is_at_word-2-clause-reads
unfolding body
returns-then-is_at_word-2-clause-reads g c =
    goes_on _ _ _ _ _ c.nametype.ensures.reads (declaration_reads (standing_of c.args.self.now) false true _ _ _ (sym c.is_at_word.ensures ∙ c.if-is_at_word.false) (sym c.is_at_word-2.ensures ∙ c.if-is_at_word-2.true) refl refl refl)

pub returns-then-is_at_word-3-clause-reads : goal.returns-then-is_at_word-3-clause-reads
unfolding body
returns-then-is_at_word-3-clause-reads g c =
    goes_on _ _ _ _ _ c.channels.ensures.reads (declaration_reads (standing_of c.args.self.now) false false true _ _ (sym c.is_at_word.ensures ∙ c.if-is_at_word.false) (sym c.is_at_word-2.ensures ∙ c.if-is_at_word-2.false) (sym c.is_at_word-3.ensures ∙ c.if-is_at_word-3.true) refl refl)

pub returns-then-is_at_word-4-clause-reads : goal.returns-then-is_at_word-4-clause-reads
unfolding body
returns-then-is_at_word-4-clause-reads g c =
    goes_on _ _ _ _ _ c.assertion.ensures.reads (declaration_reads (standing_of c.args.self.now) false false false true _ (sym c.is_at_word.ensures ∙ c.if-is_at_word.false) (sym c.is_at_word-2.ensures ∙ c.if-is_at_word-2.false) (sym c.is_at_word-3.ensures ∙ c.if-is_at_word-3.false) (sym c.is_at_word-4.ensures ∙ c.if-is_at_word-4.true) refl)

pub returns-then-is_at_name-clause-reads : goal.returns-then-is_at_name-clause-reads
unfolding body
returns-then-is_at_name-clause-reads g c =
    goes_on _ _ _ _ _ c.equation.ensures.reads (declaration_reads (standing_of c.args.self.now) false false false false true (sym c.is_at_word.ensures ∙ c.if-is_at_word.false) (sym c.is_at_word-2.ensures ∙ c.if-is_at_word-2.false) (sym c.is_at_word-3.ensures ∙ c.if-is_at_word-3.false) (sym c.is_at_word-4.ensures ∙ c.if-is_at_word-4.false) (sym c.is_at_name.ensures ∙ c.if-is_at_name.true))

pub returns-clause-reads : goal.returns-clause-reads
unfolding body
returns-clause-reads g c =
    declaration_reads (standing_of c.args.self.now) false false false false false (sym c.is_at_word.ensures ∙ c.if-is_at_word.false) (sym c.is_at_word-2.ensures ∙ c.if-is_at_word-2.false) (sym c.is_at_word-3.ensures ∙ c.if-is_at_word-3.false) (sym c.is_at_word-4.ensures ∙ c.if-is_at_word-4.false) (sym c.is_at_name.ensures ∙ c.if-is_at_name.false)
