use Rattle.std.proofs.Common.{◌∙◌, true, false, refl, sym, arith}
use Rattle.theory_reader.specs.Reader.{body}
use Rattle.csp_parse.specs.Processes.{process_in}
use Rattle.csp_parse.specs.Reading.{standing_of}
use Rattle.csp_parse.proofs.Turns.{hidden_reads, hidden_more}
use Rattle.csp_parse.proofs.Steps.{hands, refused}
use Rattle.csp_parse.proofs.parsers.Parser.hidden.Goals as goal

pub loop-self-init : goal.loop-self-init
unfolding body
loop-self-init g c = record { same = refl; not_longer = omega arith }

pub loop-self-preserved : goal.loop-self-preserved
unfolding body
loop-self-preserved g c =
    record { same = c.loop-self.invariant.same ∙ hidden_more _ _ _ _ _ (sym c.is_at.ensures ∙ c.loop-self-test.true) c.in_ok-set.ensures.reads c.in_ok-process.ensures.makes; not_longer = omega (arith, c.loop-self.invariant.not_longer, c.in_ok-set.ensures.shorter) }

pub returns-clause-reads : goal.returns-clause-reads
unfolding body
returns-clause-reads g c =
    c.loop-self.invariant.same ∙ hidden_reads (process_in c.loop-self.process) (standing_of c.loop-self.self) false (sym c.is_at.ensures ∙ c.loop-self-test.false)

pub returns-in_err-set-clause-reads : goal.returns-in_err-set-clause-reads
unfolding body
returns-in_err-set-clause-reads g c =
    hands _ _ _ _ _ _ c.from_residual.ensures c.in_err-set.ensures.reads (λ h e. c.loop-self.invariant.same ∙ hidden_reads (process_in c.loop-self.process) (standing_of c.loop-self.self) true (sym c.is_at.ensures ∙ c.loop-self-test.true) ∙ rw e refl)

pub returns-in_err-process-clause-reads : goal.returns-in_err-process-clause-reads
unfolding body
returns-in_err-process-clause-reads g c = hands _ _ _ _ _ _ c.from_residual-in_err-process.ensures (refused _ _ _ c.in_err-process.ensures.stops) (λ h e. e)
