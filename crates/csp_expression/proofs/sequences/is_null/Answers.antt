use Rattle.std.proofs.Common.{nat_eq, sym, ◌∙◌, ap, Ok}
use Rattle.csp_value.proofs.Forms.{value_of_bool}
use Rattle.csp_expression.proofs.Forming.{null_is}
use Rattle.csp_expression.proofs.sequences.is_null.Goals as goal

pub returns-in-Seq : goal.returns-in-Seq
returns-in-Seq g c =
    null_is c.args.operand.now c.in-Seq.items c.is_empty.result c.in-Seq.is (c.is_empty.ensures ∙ ap (λ n. nat_eq n 0) c.in-Seq.items.ok.0) ∙ ap Ok (sym (value_of_bool g.row.A.Denot c.is_empty.result))
