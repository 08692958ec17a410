use Rattle.std.proofs.Common.{◌∙◌, true, map, refl, sym, ap}
use Rattle.theory_reader.specs.Reader.{body}
use Rattle.theory_reader.proofs.Laws.{reads_is}
use Rattle.csp_parse.specs.Declarations.{domain_of}
use Rattle.csp_parse.proofs.Steps.{hands}
use Rattle.csp_parse.proofs.Declared.{clause_reads, bare_clause}
use Rattle.csp_parse.proofs.parsers.Parser.clause.Goals as goal

pub returns-in_err-name-clause-reads : goal.returns-in_err-name-clause-reads
unfolding body
returns-in_err-name-clause-reads g c = hands _ _ _ _ _ _ c.from_residual.ensures c.in_err-name.ensures.reads (λ h e. rw (reads_is, e) refl)

pub returns-then-not-is_at-clause-reads : goal.returns-then-not-is_at-clause-reads
unfolding body
returns-then-not-is_at-clause-reads g c =
    bare_clause _ _ _ _ c.in_ok-name.ensures.reads (sym c.is_at.ensures ∙ c.if-not-is_at.true) (ap (map domain_of) c.new.ensures.items)

pub returns-in_err-sign-clause-reads : goal.returns-in_err-sign-clause-reads
unfolding body
returns-in_err-sign-clause-reads g c =
    hands _ _ _ _ _ _ c.from_residual-in_err-sign.ensures c.in_err-sign.ensures.reads (λ h e. clause_reads _ _ _ true c.in_ok-name.ensures.reads (sym c.is_at.ensures ∙ c.if-not-is_at.false) ∙ rw e refl)

pub returns-in_err-fields-clause-reads : goal.returns-in_err-fields-clause-reads
unfolding body
returns-in_err-fields-clause-reads g c =
    hands _ _ _ _ _ _ c.from_residual-in_err-fields.ensures c.in_err-fields.ensures.reads (λ h e. clause_reads _ _ _ true c.in_ok-name.ensures.reads (sym c.is_at.ensures ∙ c.if-not-is_at.false) ∙ rw (c.in_ok-sign.ensures.reads, e) refl)

pub returns-clause-reads : goal.returns-clause-reads
unfolding body
returns-clause-reads g c =
    clause_reads _ _ _ true c.in_ok-name.ensures.reads (sym c.is_at.ensures ∙ c.if-not-is_at.false) ∙ rw (c.in_ok-sign.ensures.reads, c.in_ok-fields.ensures.reads) refl
