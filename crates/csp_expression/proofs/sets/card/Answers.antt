use Rattle.std.proofs.Common.{Result, length, sym, subst}
use Rattle.theory_syntax.specs.Value as pure
use Rattle.theory_semantics.specs.Meaning.Evaluation.{Cause}
use Rattle.csp_value.specs.Value.{members_of}
use Rattle.csp_expression.specs.Evaluation.{IsAnswer}
use Rattle.csp_expression.proofs.Forming.{as_many, card_is}
use Rattle.csp_expression.proofs.sets.card.Goals as goal

pub returns-in-Set : goal.returns-in-Set
returns-in-Set g c =
    let P : Result pure.Value Cause → Type 0 = λ r. IsAnswer c.count.result r in
    let counted = sym (as_many c.members.result.now (pure.values_list (members_of c.in-Set.set)) c.members.ensures) in
    subst P (card_is c.args.operand.now c.in-Set.set (length c.members.result.now) c.in-Set.is counted) c.count.ensures
