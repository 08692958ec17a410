use Rattle.std.proofs.Common.{Result, ◌∙◌, subst}
use Rattle.theory_syntax.specs.Value as pure
use Rattle.theory_semantics.specs.Meaning.Evaluation.{Cause}
use Rattle.csp_expression.specs.Evaluation.{IsAnswer}
use Rattle.csp_expression.proofs.Forming.{length_is}
use Rattle.csp_expression.proofs.sequences.length.Goals as goal

pub returns-in-Seq : goal.returns-in-Seq
returns-in-Seq g c =
    let P : Result pure.Value Cause → Type 0 = λ r. IsAnswer c.count.result r in
    subst P (length_is c.args.operand.now c.in-Seq.items c.len.result c.in-Seq.is (c.len.ensures ∙ c.in-Seq.items.ok.0)) c.count.ensures
