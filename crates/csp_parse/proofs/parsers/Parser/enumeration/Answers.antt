use Rattle.std.proofs.Common.{◌∙◌, refl, sym}
use Rattle.theory_reader.specs.Reader.{body, is_sign}
use Rattle.theory_reader.proofs.Laws.{reads_is}
use Rattle.csp_parse.proofs.Steps.{hands}
use Rattle.csp_parse.proofs.ProcessTrees.{set_of_enumeration}
use Rattle.csp_parse.proofs.parsers.Parser.enumeration.Goals as goal

pub returns-in_err-sign-clause-reads : goal.returns-in_err-sign-clause-reads
unfolding body is_sign
returns-in_err-sign-clause-reads g c = hands _ _ _ _ _ _ c.from_residual.ensures c.in_err-sign.ensures.reads (λ h e. rw (reads_is, e) refl)

pub returns-in_err-sign-2-clause-reads : goal.returns-in_err-sign-2-clause-reads
unfolding body is_sign
returns-in_err-sign-2-clause-reads g c =
    hands _ _ _ _ _ _ c.from_residual-in_err-sign-2.ensures c.in_err-sign-2.ensures.reads (λ h e. rw (reads_is, c.in_ok-sign.ensures.reads, sym c.is_at.ensures ∙ c.if-is_at.true, e) refl)

pub returns-then-is_at-clause-reads : goal.returns-then-is_at-clause-reads
unfolding body is_sign
returns-then-is_at-clause-reads g c =
    rw (reads_is, c.in_ok-sign.ensures.reads, sym c.is_at.ensures ∙ c.if-is_at.true, c.in_ok-sign-2.ensures.reads, set_of_enumeration g.row.A.Denot c.new.result, c.new.ensures.items) refl

pub returns-in_err-events-clause-reads : goal.returns-in_err-events-clause-reads
unfolding body is_sign
returns-in_err-events-clause-reads g c =
    hands _ _ _ _ _ _ c.from_residual-in_err-events.ensures c.in_err-events.ensures.reads (λ h e. rw (reads_is, c.in_ok-sign.ensures.reads, sym c.is_at.ensures ∙ c.if-is_at.false, e) refl)

pub returns-in_err-sign-3-clause-reads : goal.returns-in_err-sign-3-clause-reads
unfolding body is_sign
returns-in_err-sign-3-clause-reads g c =
    hands _ _ _ _ _ _ c.from_residual-in_err-sign-3.ensures c.in_err-sign-3.ensures.reads (λ h e. rw (reads_is, c.in_ok-sign.ensures.reads, sym c.is_at.ensures ∙ c.if-is_at.false, c.in_ok-events.ensures.reads, e) refl)

pub returns-clause-reads : goal.returns-clause-reads
unfolding body is_sign
returns-clause-reads g c =
    rw (reads_is, c.in_ok-sign.ensures.reads, sym c.is_at.ensures ∙ c.if-is_at.false, c.in_ok-events.ensures.reads, c.in_ok-sign-3.ensures.reads, set_of_enumeration g.row.A.Denot c.in_ok-events.events) refl
