use Rattle.std.proofs.Common.{◌∙◌, true, false, map, refl, sym, ap, arith}
use Rattle.theory_text.specs.Token.{OutputSign, InputSign}
use Rattle.theory_reader.specs.Forms.{FieldsBehind}
use Rattle.theory_reader.specs.Reader.{is_sign, reads}
use Rattle.csp_parse.specs.Processes.{field_of}
use Rattle.csp_parse.specs.Reading.{standing_of, next_of}
use Rattle.csp_parse.proofs.Loops.{fields_reads, fields_more, first_holds, second_holds, neither_holds}
use Rattle.csp_parse.proofs.Steps.{hands, refused}
use Rattle.csp_parse.proofs.parsers.Parser.fields_behind.Goals as goal
use Rattle.csp_parse.proofs.parsers.Parser.fields_behind.Goals.{then-is_at, else-is_at+then-is_at-2}

pub loop-self-init : goal.loop-self-init
loop-self-init g c = record { same = ap (λ xs. reads (FieldsBehind xs) (standing_of c.args.self.now)) (sym c.in_ok-fields.ensures.makes); not_longer = omega arith }

pub loop-self-preserved : goal.loop-self-preserved
loop-self-preserved g c = record {
  same = c.loop-self.invariant.same ∙ fields_more field_of _ _ _ _ _ (elim c.if-is_at.branch [
    | then-is_at w ↦ first_holds (is_sign OutputSign (next_of c.loop-self.self)) (is_sign InputSign (next_of c.loop-self.self)) (sym c.is_at.ensures ∙ w.if-is_at.true)
    | else-is_at+then-is_at-2 w ↦ second_holds (is_sign OutputSign (next_of c.loop-self.self)) (is_sign InputSign (next_of c.loop-self.self)) (sym w.is_at-else-is_at.ensures ∙ w.if-is_at-2.true)
  ]) c.in_ok-field.ensures.reads c.in_ok-push.ensures.items;
  not_longer = omega (arith, c.loop-self.invariant.not_longer, c.in_ok-field.ensures.shorter);
}

pub returns-clause-reads : goal.returns-clause-reads
returns-clause-reads g c = c.loop-self.invariant.same ∙ fields_reads (map field_of c.loop-self.fields.items) (standing_of c.loop-self.self) false (neither_holds (is_sign OutputSign (next_of c.loop-self.self)) (is_sign InputSign (next_of c.loop-self.self)) (sym c.is_at.ensures ∙ c.if-is_at.false) (sym c.is_at-else-is_at.ensures ∙ c.if-is_at-2.false))

pub returns-in_err-fields-clause-reads : goal.returns-in_err-fields-clause-reads
returns-in_err-fields-clause-reads g c = hands _ _ _ _ _ _ c.from_residual.ensures (refused _ _ _ c.in_err-fields.ensures.stops) (λ h e. e)

pub returns-in_err-field-clause-reads : goal.returns-in_err-field-clause-reads
returns-in_err-field-clause-reads g c =
    hands _ _ _ _ _ _ c.from_residual-in_err-field.ensures c.in_err-field.ensures.reads (λ h e. c.loop-self.invariant.same ∙ fields_reads (map field_of c.loop-self.fields.items) (standing_of c.loop-self.self) true (elim c.if-is_at.branch [
      | then-is_at w ↦ first_holds (is_sign OutputSign (next_of c.loop-self.self)) (is_sign InputSign (next_of c.loop-self.self)) (sym c.is_at.ensures ∙ w.if-is_at.true)
      | else-is_at+then-is_at-2 w ↦ second_holds (is_sign OutputSign (next_of c.loop-self.self)) (is_sign InputSign (next_of c.loop-self.self)) (sym w.is_at-else-is_at.ensures ∙ w.if-is_at-2.true)
    ]) ∙ rw e refl)
