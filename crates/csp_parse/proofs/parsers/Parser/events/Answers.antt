use Rattle.std.proofs.Common.{◌∙◌, ◌++◌, ◌∷◌, [], true, false, map, refl, sym, ap, arith}
use Rattle.theory_reader.specs.Forms.{EventsBehind}
use Rattle.theory_reader.specs.Reader.{body, reads}
use Rattle.theory_reader.proofs.Laws.{reads_is}
use Rattle.csp_parse.specs.Events.{event_of}
use Rattle.csp_parse.specs.Reading.{standing_of}
use Rattle.csp_parse.proofs.Loops.{events_reads, events_begin, events_more}
use Rattle.csp_parse.proofs.Steps.{hands}
use Rattle.csp_parse.proofs.parsers.Parser.events.Goals as goal

pub loop-self-init : goal.loop-self-init
loop-self-init g c = record {
  same = events_begin _ _ _ c.in_ok-first.ensures.reads
      ∙ ap (λ xs. reads (EventsBehind (map event_of xs)) (standing_of c.event.new.self)) (sym (c.in_ok-push.ensures.items ∙ ap (λ xs. xs ++ c.in_ok-first.first ∷ []) c.new-events.ensures.items));
  shorter = omega (arith, c.in_ok-first.ensures.shorter);
}

pub loop-self-preserved : goal.loop-self-preserved
loop-self-preserved g c = record {
  same = c.loop-self.invariant.same ∙ events_more event_of _ _ _ _ _ _ (sym c.is_at.ensures ∙ c.loop-self-test.true) c.in_ok-sign.ensures.reads c.in_ok-event.ensures.reads c.in_ok-push-2.ensures.items;
  shorter = omega (arith, c.loop-self.invariant.shorter, c.in_ok-sign.ensures.shorter, c.in_ok-event.ensures.shorter);
}

pub returns-clause-reads : goal.returns-clause-reads
returns-clause-reads g c = c.loop-self.invariant.same ∙ events_reads (map event_of c.loop-self.events.items) (standing_of c.loop-self.self) false (sym c.is_at.ensures ∙ c.loop-self-test.false)

pub returns-in_err-first-clause-reads : goal.returns-in_err-first-clause-reads
unfolding body
returns-in_err-first-clause-reads g c = hands _ _ _ _ _ _ c.from_residual.ensures c.in_err-first.ensures.reads (λ h e. rw (reads_is, e) refl)

pub returns-in_err-sign-clause-reads : goal.returns-in_err-sign-clause-reads
returns-in_err-sign-clause-reads g c =
    hands _ _ _ _ _ _ c.from_residual-in_err-sign.ensures c.in_err-sign.ensures.reads (λ h e. c.loop-self.invariant.same ∙ events_reads (map event_of c.loop-self.events.items) (standing_of c.loop-self.self) true (sym c.is_at.ensures ∙ c.loop-self-test.true) ∙ rw e refl)

pub returns-in_err-event-clause-reads : goal.returns-in_err-event-clause-reads
returns-in_err-event-clause-reads g c =
    hands _ _ _ _ _ _ c.from_residual-in_err-event.ensures c.in_err-event.ensures.reads
    (λ h e. c.loop-self.invariant.same ∙ events_reads (map event_of c.loop-self.events.items) (standing_of c.loop-self.self) true (sym c.is_at.ensures ∙ c.loop-self-test.true) ∙ rw (c.in_ok-sign.ensures.reads, e) refl)
