-- One more value is copied, and a copy of a constructor or of a sequence is a copy of each of its items.
use Rattle.std.proofs.Common.{sym, ◌∙◌, ap}
use Rattle.theory_syntax.specs.Value as pure
use Rattle.csp_value.specs.Value.{value_of, values_of}
use Rattle.csp_value.proofs.Copying.{map_push}
use Rattle.csp_value.proofs.Forms.{value_of_con, value_of_seq}
use Rattle.csp_value.proofs.+copy.Goals as goal

pub value::copy_values-loop-value-preserved : goal.value::copy_values-loop-value-preserved
value::copy_values-loop-value-preserved g t c =
    map_push value_of value_of c.loop-value.copies.items c.push.new.self.items c.in_ok-try_copy.field-0 c.args.values.now c.loop-value.value-index c.value-item.result
    c.loop-value.invariant c.loop-value-test.true c.value-item.is c.in_ok-try_copy.ensures c.in_ok-push.ensures.items

pub value::Value::try_copy-returns-in_ok-copy_values-in-Con : goal.value::Value::try_copy-returns-in_ok-copy_values-in-Con
value::Value::try_copy-returns-in_ok-copy_values-in-Con g t c =
    let same = c.in_ok-copy_values-in-Con.ensures ∙ ap values_of c.deref.ensures.value in
    value_of_con g.row.A.Denot _ c.in_ok-copy_values-in-Con.field-0 ∙ ap (λ vs. pure.Constructor c.in-Con.constructor.0 (pure.to_values vs)) same ∙ sym (value_of_con g.row.A.Denot _ c.in-Con.fields) ∙ ap value_of (sym c.in-Con.is)

pub value::Value::try_copy-returns-in_ok-copy_values-in-Seq : goal.value::Value::try_copy-returns-in_ok-copy_values-in-Seq
value::Value::try_copy-returns-in_ok-copy_values-in-Seq g t c =
    let same = c.in_ok-copy_values-in-Seq.ensures ∙ ap values_of c.deref-in-Seq.ensures.value in
    value_of_seq g.row.A.Denot c.in_ok-copy_values-in-Seq.field-0 ∙ ap (λ vs. pure.Sequence (pure.to_values vs)) same ∙ sym (value_of_seq g.row.A.Denot c.in-Seq.items) ∙ ap value_of (sym c.in-Seq.is)
