use Rattle.std.proofs.Common.{◌∙◌, refl, sym}
use Rattle.theory_reader.specs.Reader.{is_sign, body}
use Rattle.theory_reader.proofs.Laws.{reads_is}
use Rattle.csp_parse.proofs.Steps.{hands}
use Rattle.csp_parse.proofs.parsers.Parser.field.Goals as goal

pub returns-in_err-value-clause-reads : goal.returns-in_err-value-clause-reads
unfolding body is_sign
returns-in_err-value-clause-reads g c =
    hands _ _ _ _ _ _ c.from_residual.ensures c.in_err-value.ensures.reads (λ h e. rw (reads_is, sym c.is_at.ensures ∙ c.if-is_at.true, e) refl)

pub returns-then-is_at-clause-reads : goal.returns-then-is_at-clause-reads
unfolding body is_sign
returns-then-is_at-clause-reads g c = rw (reads_is, sym c.is_at.ensures ∙ c.if-is_at.true, c.in_ok-value.ensures.reads) refl

pub returns-in_err-name-clause-reads : goal.returns-in_err-name-clause-reads
unfolding body is_sign
returns-in_err-name-clause-reads g c =
    hands _ _ _ _ _ _ c.from_residual-in_err-name.ensures c.in_err-name.ensures.reads (λ h e. rw (reads_is, sym c.is_at.ensures ∙ c.if-is_at.false, e) refl)

pub returns-then-not-is_at-clause-reads : goal.returns-then-not-is_at-clause-reads
unfolding body is_sign
returns-then-not-is_at-clause-reads g c =
    rw (reads_is, sym c.is_at.ensures ∙ c.if-is_at.false, c.in_ok-name.ensures.reads, sym c.is_at-2.ensures ∙ c.if-not-is_at.true) refl

pub returns-in_err-set-clause-reads : goal.returns-in_err-set-clause-reads
unfolding body is_sign
returns-in_err-set-clause-reads g c =
    hands _ _ _ _ _ _ c.from_residual-in_err-set.ensures c.in_err-set.ensures.reads (λ h e. rw (reads_is, sym c.is_at.ensures ∙ c.if-is_at.false, c.in_ok-name.ensures.reads, sym c.is_at-2.ensures ∙ c.if-not-is_at.false, e) refl)

pub returns-clause-reads : goal.returns-clause-reads
unfolding body is_sign
returns-clause-reads g c =
    rw (reads_is, sym c.is_at.ensures ∙ c.if-is_at.false, c.in_ok-name.ensures.reads, sym c.is_at-2.ensures ∙ c.if-not-is_at.false, c.in_ok-set.ensures.reads) refl
