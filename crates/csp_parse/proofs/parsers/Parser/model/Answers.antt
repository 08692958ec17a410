use Rattle.std.proofs.Common.{◌∙◌, true, false, refl, sym}
use Rattle.theory_reader.specs.Reader.{body}
use Rattle.csp_parse.specs.Reading.{standing_of}
use Rattle.csp_parse.proofs.Steps.{hands}
use Rattle.csp_parse.proofs.Declared.{model_reads}
use Rattle.csp_parse.proofs.parsers.Parser.model.Goals as goal

pub returns-in_err-sign-clause-reads : goal.returns-in_err-sign-clause-reads
unfolding body
returns-in_err-sign-clause-reads g c =
    hands _ _ _ _ _ _ c.from_residual.ensures c.in_err-sign.ensures.reads (λ h e. model_reads (standing_of c.args.self.now) true (sym c.is_at.ensures ∙ c.if-is_at.true) ∙ rw e refl)

pub returns-then-is_at-clause-reads : goal.returns-then-is_at-clause-reads
unfolding body
returns-then-is_at-clause-reads g c = model_reads (standing_of c.args.self.now) true (sym c.is_at.ensures ∙ c.if-is_at.true) ∙ rw c.in_ok-sign.ensures.reads refl

pub returns-in_err-sign-2-clause-reads : goal.returns-in_err-sign-2-clause-reads
unfolding body
returns-in_err-sign-2-clause-reads g c =
    hands _ _ _ _ _ _ c.from_residual-in_err-sign-2.ensures c.in_err-sign-2.ensures.reads (λ h e. model_reads (standing_of c.args.self.now) false (sym c.is_at.ensures ∙ c.if-is_at.false) ∙ rw e refl)

pub returns-clause-reads : goal.returns-clause-reads
unfolding body
returns-clause-reads g c = model_reads (standing_of c.args.self.now) false (sym c.is_at.ensures ∙ c.if-is_at.false) ∙ rw c.in_ok-sign-2.ensures.reads refl
