use Rattle.std.proofs.Common.{nat_eq, sym, ◌∙◌, ap}
use Rattle.csp_expression.proofs.Forming.{tail_is}
use Rattle.csp_expression.proofs.sequences.tail.Goals as goal

pub returns-in-Seq : goal.returns-in-Seq
returns-in-Seq g c =
    tail_is c.args.operand c.in-Seq.items c.remove-head.new.self c.in-Seq.is (ap (λ n. nat_eq n 0) (sym c.in-Seq.items.ok.0) ∙ sym c.is_empty.ensures ∙ c.if-is_empty.false) c.remove-head.ensures.items
