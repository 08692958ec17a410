use Rattle.std.proofs.Common.{sym, ◌∙◌, ap, not, Ok}
use Rattle.theory_syntax.specs.Value.{Truth}
use Rattle.csp_value.proofs.Forms.{value_of_bool}
use Rattle.csp_expression.proofs.ValueTests.{same_test}
use Rattle.csp_expression.proofs.comparison.differs.Goals as goal

pub returns : goal.returns
returns g c =
    let same = same_test g.row.A g.A.Allocator g.A.Allocator-dict g.A.Destruct-dict c.args.left.now c.args.right.now in
    ap Ok (ap Truth (sym (c.ne.ensures ∙ ap not same)) ∙ sym (value_of_bool g.row.A.Denot c.ne.result))
