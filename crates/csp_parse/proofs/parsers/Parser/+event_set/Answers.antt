use Rattle.std.proofs.Common.{◌∙◌, true, false, refl, sym, ap, Some, None}
use Rattle.theory_reader.specs.Reader.{body, reads}
use Rattle.theory_reader.proofs.Laws.{reads_is}
use Rattle.theory_reader.specs.Programs.{run}
use Rattle.csp_parse.proofs.Others.{no_set_begins}
use Rattle.csp_parse.proofs.Steps.{hands, goes_on, made}
use Rattle.std.specs.Prelude.{option_map}
use Rattle.csp_lex.specs.Tokens.{keyword_of}
use Rattle.theory_reader.specs.Programs.{SeenWord}
use Rattle.csp_parse.specs.Levels.{seen_kind}
use Rattle.csp_parse.specs.Reading.{standing_of}
use Rattle.csp_parse.specs.EventSets.{operator_of}
use Rattle.csp_parse.proofs.Loops.{event_set_reads, combined_set_reads}
use Rattle.csp_parse.proofs.parsers.Parser.+event_set.Goals as goal

pub event_set-returns-then-is_at-clause-reads : goal.event_set-returns-then-is_at-clause-reads
unfolding body
event_set-returns-then-is_at-clause-reads g t c =
    goes_on _ _ _ _ _ c.productions.ensures.reads (event_set_reads (standing_of c.args.self.now) true _ _ (sym c.is_at.ensures ∙ c.if-is_at.true) refl refl)

pub event_set-returns-then-is_at-2-clause-reads : goal.event_set-returns-then-is_at-2-clause-reads
unfolding body
event_set-returns-then-is_at-2-clause-reads g t c =
    goes_on _ _ _ _ _ c.enumeration.ensures.reads (event_set_reads (standing_of c.args.self.now) false true _ (sym c.is_at.ensures ∙ c.if-is_at.false) (sym c.is_at-2.ensures ∙ c.if-is_at-2.true) refl)

pub event_set_behind-returns-in_err-sign-clause-reads : goal.event_set_behind-returns-in_err-sign-clause-reads
unfolding body
event_set_behind-returns-in_err-sign-clause-reads g t c = hands _ _ _ _ _ _ c.from_residual.ensures c.in_err-sign.ensures.reads (λ h e. rw (reads_is, e) refl)

pub event_set_behind-returns-clause-reads : goal.event_set_behind-returns-clause-reads
unfolding body
event_set_behind-returns-clause-reads g t c = goes_on _ _ _ _ _ c.event_set.ensures.reads (rw (reads_is, c.in_ok-sign.ensures.reads) refl)

pub event_set-returns-in_default-clause-reads : goal.event_set-returns-in_default-clause-reads
unfolding body
event_set-returns-in_default-clause-reads g t c =
    event_set_reads (standing_of c.args.self.now) false false None (sym c.is_at.ensures ∙ c.if-is_at.false) (sym c.is_at-2.ensures ∙ c.if-is_at-2.false) c.in_default.ensures

pub event_set-returns-clause-reads : goal.event_set-returns-clause-reads
unfolding body
event_set-returns-clause-reads g t c =
    goes_on _ _ _ _ _ c.combined_set.ensures.reads (event_set_reads (standing_of c.args.self.now) false false (Some (SeenWord (keyword_of c.in-Keyword.keyword))) (sym c.is_at.ensures ∙ c.if-is_at.false) (sym c.is_at-2.ensures ∙ c.if-is_at-2.false) (ap (λ k. Some (seen_kind k)) (sym c.in-Keyword.is) ∙ c.in-Some.ensures))

pub combined_set-returns-in_default-clause-reads : goal.combined_set-returns-in_default-clause-reads
unfolding body
combined_set-returns-in_default-clause-reads g t c =
    combined_set_reads (keyword_of c.args.keyword) (standing_of c.args.self.now) None (sym c.set_operator.ensures ∙ ap (option_map operator_of) c.in_default.is)

pub combined_set-returns-in_err-word-clause-reads : goal.combined_set-returns-in_err-word-clause-reads
unfolding body
combined_set-returns-in_err-word-clause-reads g t c =
    hands _ _ _ _ _ _ c.from_residual.ensures c.in_err-word.ensures.reads (λ h e. combined_set_reads (keyword_of c.args.keyword) (standing_of c.args.self.now) (Some (operator_of c.in-Some.operator)) (sym c.set_operator.ensures ∙ ap (option_map operator_of) c.in-Some.is) ∙ rw (e) refl)

pub combined_set-returns-in_err-left-clause-reads : goal.combined_set-returns-in_err-left-clause-reads
unfolding body
combined_set-returns-in_err-left-clause-reads g t c =
    hands _ _ _ _ _ _ c.from_residual-in_err-left.ensures c.in_err-left.ensures.reads (λ h e. combined_set_reads (keyword_of c.args.keyword) (standing_of c.args.self.now) (Some (operator_of c.in-Some.operator)) (sym c.set_operator.ensures ∙ ap (option_map operator_of) c.in-Some.is) ∙ rw (c.in_ok-word.ensures.reads, e) refl)

pub combined_set-returns-in_err-right-clause-reads : goal.combined_set-returns-in_err-right-clause-reads
unfolding body
combined_set-returns-in_err-right-clause-reads g t c =
    hands _ _ _ _ _ _ c.from_residual-in_err-right.ensures c.in_err-right.ensures.reads (λ h e. combined_set_reads (keyword_of c.args.keyword) (standing_of c.args.self.now) (Some (operator_of c.in-Some.operator)) (sym c.set_operator.ensures ∙ ap (option_map operator_of) c.in-Some.is) ∙ rw (c.in_ok-word.ensures.reads, c.in_ok-left.ensures.reads, e) refl)

pub combined_set-returns-in_err-sign-clause-reads : goal.combined_set-returns-in_err-sign-clause-reads
unfolding body
combined_set-returns-in_err-sign-clause-reads g t c =
    hands _ _ _ _ _ _ c.from_residual-in_err-sign.ensures c.in_err-sign.ensures.reads (λ h e. combined_set_reads (keyword_of c.args.keyword) (standing_of c.args.self.now) (Some (operator_of c.in-Some.operator)) (sym c.set_operator.ensures ∙ ap (option_map operator_of) c.in-Some.is) ∙ rw (c.in_ok-word.ensures.reads, c.in_ok-left.ensures.reads, c.in_ok-right.ensures.reads, e) refl)

pub combined_set-returns-clause-reads : goal.combined_set-returns-clause-reads
unfolding body
combined_set-returns-clause-reads g t c =
    made _ _ _ _ _ c.joined.ensures.makes c.joined.ensures.stops (combined_set_reads (keyword_of c.args.keyword) (standing_of c.args.self.now) (Some (operator_of c.in-Some.operator)) (sym c.set_operator.ensures ∙ ap (option_map operator_of) c.in-Some.is) ∙ rw (c.in_ok-word.ensures.reads, c.in_ok-left.ensures.reads, c.in_ok-right.ensures.reads, c.in_ok-sign.ensures.reads) refl)

pub event_set-returns-in_default-kind-clause-reads : goal.event_set-returns-in_default-kind-clause-reads
unfolding body
event_set-returns-in_default-kind-clause-reads g t c =
    event_set_reads (standing_of c.args.self.now) false false (Some (seen_kind c.in-Some.kind)) (sym c.is_at.ensures ∙ c.if-is_at.false) (sym c.is_at-2.ensures ∙ c.if-is_at-2.false) c.in-Some.ensures
    ∙ ap (λ p. run reads p (standing_of c.args.self.now)) (no_set_begins c.in-Some.kind c.in_default-kind.not-Keyword)
