use Rattle.std.proofs.Common.{◌∙◌, true, false, map, refl, sym, ap, Ok}
use Rattle.theory_reader.specs.Reader.{body}
use Rattle.theory_reader.proofs.Laws.{reads_is}
use Rattle.csp_parse.specs.Names.{name_of}
use Rattle.csp_parse.specs.Processes.{process_in}
use Rattle.csp_parse.specs.Reading.{standing_of}
use Rattle.csp_parse.proofs.Steps.{hands, goes_on}
use Rattle.csp_parse.proofs.Declared.{equation_reads}
use Rattle.theory_text.specs.Raw.{RawEquation}
use Rattle.csp_parse.proofs.parsers.Parser.equation.Goals as goal

pub returns-in_err-name-clause-reads : goal.returns-in_err-name-clause-reads
unfolding body
returns-in_err-name-clause-reads g c = hands _ _ _ _ _ _ c.from_residual.ensures c.in_err-name.ensures.reads (λ h e. rw (reads_is, e) refl)

pub returns-then-is_at-clause-reads : goal.returns-then-is_at-clause-reads
unfolding body
returns-then-is_at-clause-reads g c =
    goes_on _ _ _ _ _ c.equation_with.ensures.reads (equation_reads _ _ _ true c.in_ok-name.ensures.reads (sym c.is_at.ensures ∙ c.if-is_at.true))

pub returns-in_err-body-clause-reads : goal.returns-in_err-body-clause-reads
unfolding body
returns-in_err-body-clause-reads g c =
    hands _ _ _ _ _ _ c.from_residual-in_err-body.ensures c.in_err-body.ensures.reads (λ h e. equation_reads _ _ _ false c.in_ok-name.ensures.reads (sym c.is_at.ensures ∙ c.if-is_at.false) ∙ rw e refl)

pub returns-clause-reads : goal.returns-clause-reads
unfolding body
returns-clause-reads g c =
    equation_reads _ _ _ false c.in_ok-name.ensures.reads (sym c.is_at.ensures ∙ c.if-is_at.false) ∙ rw c.in_ok-body.ensures.reads (ap (λ ns. Ok (RawEquation (name_of c.in_ok-name.name) (map name_of ns) (process_in c.in_ok-body.body), standing_of c.process_behind.new.self)) (sym c.new.ensures.items))
