use Rattle.std.proofs.Common.{◌∙◌, true, false, refl, sym, Some, None}
use Rattle.theory_reader.specs.Reader.{body}
use Rattle.csp_lex.specs.Tokens.{placed_token}
use Rattle.csp_parse.specs.Reading.{standing_of}
use Rattle.csp_parse.proofs.Steps.{hands}
use Rattle.csp_parse.proofs.Declared.{assertion_begins, assertion_reads}
use Rattle.csp_parse.proofs.parsers.Parser.assertion.Goals as goal

pub returns-in_default-clause-reads : goal.returns-in_default-clause-reads
unfolding body
returns-in_default-clause-reads g c = assertion_begins (standing_of c.args.self.now) None c.in_default.ensures

pub returns-in_err-word-clause-reads : goal.returns-in_err-word-clause-reads
unfolding body
returns-in_err-word-clause-reads g c =
    hands _ _ _ _ _ _ c.from_residual.ensures c.in_err-word.ensures.reads (λ h e. assertion_begins (standing_of c.args.self.now) (Some (placed_token c.in-Some.first)) c.in-Some.ensures ∙ rw e refl)

pub returns-in_err-negated-clause-reads : goal.returns-in_err-negated-clause-reads
unfolding body
returns-in_err-negated-clause-reads g c =
    hands _ _ _ _ _ _ c.from_residual-in_err-negated.ensures c.in_err-negated.ensures.reads (λ h e. assertion_begins (standing_of c.args.self.now) (Some (placed_token c.in-Some.first)) c.in-Some.ensures ∙ rw (c.in_ok-word.ensures.reads, e) refl)

pub returns-in_err-sign-clause-reads : goal.returns-in_err-sign-clause-reads
unfolding body
returns-in_err-sign-clause-reads g c =
    hands _ _ _ _ _ _ c.from_residual-in_err-sign.ensures c.in_err-sign.ensures.reads (λ h e. assertion_reads (placed_token c.in-Some.first) _ _ _ _ true c.in-Some.ensures c.in_ok-word.ensures.reads c.in_ok-negated.ensures.reads (sym c.is_at.ensures ∙ c.if-is_at.true) ∙ rw e refl)

pub returns-in_err-property-clause-reads : goal.returns-in_err-property-clause-reads
unfolding body
returns-in_err-property-clause-reads g c =
    hands _ _ _ _ _ _ c.from_residual-in_err-property.ensures c.in_err-property.ensures.reads (λ h e. assertion_reads (placed_token c.in-Some.first) _ _ _ _ true c.in-Some.ensures c.in_ok-word.ensures.reads c.in_ok-negated.ensures.reads (sym c.is_at.ensures ∙ c.if-is_at.true) ∙ rw (c.in_ok-sign.ensures.reads, e) refl)

pub returns-then-is_at-clause-reads : goal.returns-then-is_at-clause-reads
unfolding body
returns-then-is_at-clause-reads g c =
    assertion_reads (placed_token c.in-Some.first) _ _ _ _ true c.in-Some.ensures c.in_ok-word.ensures.reads c.in_ok-negated.ensures.reads (sym c.is_at.ensures ∙ c.if-is_at.true) ∙ rw (c.in_ok-sign.ensures.reads, c.in_ok-property.ensures.reads) refl

pub returns-in_err-model-clause-reads : goal.returns-in_err-model-clause-reads
unfolding body
returns-in_err-model-clause-reads g c =
    hands _ _ _ _ _ _ c.from_residual-in_err-model.ensures c.in_err-model.ensures.reads (λ h e. assertion_reads (placed_token c.in-Some.first) _ _ _ _ false c.in-Some.ensures c.in_ok-word.ensures.reads c.in_ok-negated.ensures.reads (sym c.is_at.ensures ∙ c.if-is_at.false) ∙ rw e refl)

pub returns-in_err-implementation-clause-reads : goal.returns-in_err-implementation-clause-reads
unfolding body
returns-in_err-implementation-clause-reads g c =
    hands _ _ _ _ _ _ c.from_residual-in_err-implementation.ensures c.in_err-implementation.ensures.reads (λ h e. assertion_reads (placed_token c.in-Some.first) _ _ _ _ false c.in-Some.ensures c.in_ok-word.ensures.reads c.in_ok-negated.ensures.reads (sym c.is_at.ensures ∙ c.if-is_at.false) ∙ rw (c.in_ok-model.ensures.reads, e) refl)

pub returns-clause-reads : goal.returns-clause-reads
unfolding body
returns-clause-reads g c =
    assertion_reads (placed_token c.in-Some.first) _ _ _ _ false c.in-Some.ensures c.in_ok-word.ensures.reads c.in_ok-negated.ensures.reads (sym c.is_at.ensures ∙ c.if-is_at.false) ∙ rw (c.in_ok-model.ensures.reads, c.in_ok-implementation.ensures.reads) refl
