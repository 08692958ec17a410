use Rattle.csp_expression.specs.Evaluation.{table_of}
use Rattle.csp_inference.specs.Numbering.{names_of, numbering_of}
use Rattle.csp_inference.proofs.Asking.{never_asks}
use Rattle.csp_inference.proofs.AskingArguments.{asked_first, many}
use Rattle.csp_inference.proofs.AskingExpressions.{behind_asked}
use Rattle.csp_inference.proofs.equations.Equations.ask_first.Goals as goal

pub returns-then-numbers-expressions : goal.returns-then-numbers-expressions
returns-then-numbers-expressions g c =
    let types = table_of c.args.types.now in
    let o = numbering_of c.args.numbering.now in
    let names = names_of c.args.names.now in
    let s = c.args.self.now in
    never_asks s c.push_never.new.self (asked_first types o names s.next c.args.expressions.now c.args.numbers.now) s.next
    (behind_asked s.next c.args.expressions.now) (many types o names s.next c.args.expressions.now c.args.numbers.now c.if-numbers-expressions.true)
    c.in_ok-push_never.ensures
