use Rattle.std.proofs.Common.{◌∙◌, ◌++◌, ◌∷◌, [], true, false, map, refl, sym, ap, arith}
use Rattle.theory_reader.specs.Forms.{PairsBehind}
use Rattle.theory_reader.specs.Reader.{body, reads}
use Rattle.theory_reader.proofs.Laws.{reads_is}
use Rattle.csp_parse.specs.Events.{pair_of}
use Rattle.csp_parse.specs.Reading.{standing_of}
use Rattle.csp_parse.proofs.Loops.{pairs_reads, pairs_begin, pairs_more}
use Rattle.csp_parse.proofs.Steps.{hands}
use Rattle.csp_parse.proofs.parsers.Parser.pairs.Goals as goal

pub loop-self-init : goal.loop-self-init
loop-self-init g c = record {
  same = pairs_begin _ _ _ c.in_ok-first.ensures.reads
      ∙ ap (λ xs. reads (PairsBehind (map pair_of xs)) (standing_of c.pair.new.self)) (sym (c.in_ok-push.ensures.items ∙ ap (λ xs. xs ++ c.in_ok-first.first ∷ []) c.new-pairs.ensures.items));
  shorter = omega (arith, c.in_ok-first.ensures.shorter);
}

pub loop-self-preserved : goal.loop-self-preserved
loop-self-preserved g c = record {
  same = c.loop-self.invariant.same ∙ pairs_more pair_of _ _ _ _ _ _ (sym c.is_at.ensures ∙ c.loop-self-test.true) c.in_ok-sign.ensures.reads c.in_ok-pair.ensures.reads c.in_ok-push-2.ensures.items;
  shorter = omega (arith, c.loop-self.invariant.shorter, c.in_ok-sign.ensures.shorter, c.in_ok-pair.ensures.shorter);
}

pub returns-clause-reads : goal.returns-clause-reads
returns-clause-reads g c = c.loop-self.invariant.same ∙ pairs_reads (map pair_of c.loop-self.pairs.items) (standing_of c.loop-self.self) false (sym c.is_at.ensures ∙ c.loop-self-test.false)

pub returns-in_err-first-clause-reads : goal.returns-in_err-first-clause-reads
unfolding body
returns-in_err-first-clause-reads g c = hands _ _ _ _ _ _ c.from_residual.ensures c.in_err-first.ensures.reads (λ h e. rw (reads_is, e) refl)

pub returns-in_err-sign-clause-reads : goal.returns-in_err-sign-clause-reads
returns-in_err-sign-clause-reads g c =
    hands _ _ _ _ _ _ c.from_residual-in_err-sign.ensures c.in_err-sign.ensures.reads (λ h e. c.loop-self.invariant.same ∙ pairs_reads (map pair_of c.loop-self.pairs.items) (standing_of c.loop-self.self) true (sym c.is_at.ensures ∙ c.loop-self-test.true) ∙ rw e refl)

pub returns-in_err-pair-clause-reads : goal.returns-in_err-pair-clause-reads
returns-in_err-pair-clause-reads g c =
    hands _ _ _ _ _ _ c.from_residual-in_err-pair.ensures c.in_err-pair.ensures.reads
    (λ h e. c.loop-self.invariant.same ∙ pairs_reads (map pair_of c.loop-self.pairs.items) (standing_of c.loop-self.self) true (sym c.is_at.ensures ∙ c.loop-self-test.true) ∙ rw (c.in_ok-sign.ensures.reads, e) refl)
