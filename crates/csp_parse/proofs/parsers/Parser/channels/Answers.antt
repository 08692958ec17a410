use Rattle.std.proofs.Common.{◌∙◌, true, false, map, refl, sym, ap, Ok}
use Rattle.theory_reader.specs.Reader.{body}
use Rattle.theory_reader.proofs.Laws.{reads_is}
use Rattle.csp_parse.specs.Names.{name_of}
use Rattle.csp_parse.specs.Declarations.{domain_of}
use Rattle.csp_parse.specs.Reading.{standing_of}
use Rattle.csp_parse.proofs.Steps.{hands}
use Rattle.csp_parse.proofs.Declared.{channels_reads}
use Rattle.theory_text.specs.Raw.{RawChannels}
use Rattle.csp_parse.proofs.parsers.Parser.channels.Goals as goal

pub returns-in_err-word-clause-reads : goal.returns-in_err-word-clause-reads
unfolding body
returns-in_err-word-clause-reads g c = hands _ _ _ _ _ _ c.from_residual.ensures c.in_err-word.ensures.reads (λ h e. rw (reads_is, e) refl)

pub returns-in_err-names-clause-reads : goal.returns-in_err-names-clause-reads
unfolding body
returns-in_err-names-clause-reads g c =
    hands _ _ _ _ _ _ c.from_residual-in_err-names.ensures c.in_err-names.ensures.reads (λ h e. rw (reads_is, c.in_ok-word.ensures.reads, e) refl)

pub returns-then-not-is_at-clause-reads : goal.returns-then-not-is_at-clause-reads
unfolding body
returns-then-not-is_at-clause-reads g c =
    channels_reads _ _ _ _ false c.in_ok-word.ensures.reads c.in_ok-names.ensures.reads (sym c.is_at.ensures ∙ c.if-not-is_at.true) ∙ ap (λ ds. Ok (RawChannels (map name_of c.in_ok-names.names.items) (map domain_of ds), standing_of c.names.new.self)) (sym c.new-domains.ensures.items)

pub returns-in_err-sign-clause-reads : goal.returns-in_err-sign-clause-reads
unfolding body
returns-in_err-sign-clause-reads g c =
    hands _ _ _ _ _ _ c.from_residual-in_err-sign.ensures c.in_err-sign.ensures.reads (λ h e. channels_reads _ _ _ _ true c.in_ok-word.ensures.reads c.in_ok-names.ensures.reads (sym c.is_at.ensures ∙ c.if-not-is_at.false) ∙ rw e refl)

pub returns-in_err-domains-clause-reads : goal.returns-in_err-domains-clause-reads
unfolding body
returns-in_err-domains-clause-reads g c =
    hands _ _ _ _ _ _ c.from_residual-in_err-domains.ensures c.in_err-domains.ensures.reads (λ h e. channels_reads _ _ _ _ true c.in_ok-word.ensures.reads c.in_ok-names.ensures.reads (sym c.is_at.ensures ∙ c.if-not-is_at.false) ∙ rw (c.in_ok-sign.ensures.reads, e) refl)

pub returns-clause-reads : goal.returns-clause-reads
unfolding body
returns-clause-reads g c =
    channels_reads _ _ _ _ true c.in_ok-word.ensures.reads c.in_ok-names.ensures.reads (sym c.is_at.ensures ∙ c.if-not-is_at.false) ∙ rw (c.in_ok-sign.ensures.reads, c.in_ok-domains.ensures.reads) refl
