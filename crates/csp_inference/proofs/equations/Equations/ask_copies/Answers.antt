use Rattle.std.proofs.Common.{refl}
use Rattle.csp_expression.specs.Evaluation.{table_of}
use Rattle.csp_expression.specs.Expression.{expression_of}
use Rattle.csp_inference.specs.Numbering.{numbering_of}
use Rattle.csp_inference.proofs.Asking.{left_none}
use Rattle.csp_inference.proofs.AskingSets.{asked_copies, behind_asked_copies, copy_more}
use Rattle.csp_inference.proofs.equations.Equations.ask_copies.Goals as goal

pub loop-members-preserved : goal.loop-members-preserved
loop-members-preserved g c =
    copy_more (table_of c.args.types.now) (numbering_of c.args.numbering.now) (expression_of c.args.set.now) c.args.self.now c.loop-members.self
    c.ask_set.new.self c.args.numbers.now c.loop-members.members-index _ c.loop-members-test.true c.loop-members.invariant c.in_ok-ask_set.ensures

pub returns : goal.returns
returns g c =
    left_none (asked_copies (table_of c.args.types.now) (numbering_of c.args.numbering.now) (expression_of c.args.set.now))
    (behind_asked_copies (expression_of c.args.set.now)) c.args.self.now c.loop-members.self c.args.numbers.now c.loop-members.members-index (λ n. refl)
    (λ n. refl) c.loop-members-test.false c.loop-members.invariant
