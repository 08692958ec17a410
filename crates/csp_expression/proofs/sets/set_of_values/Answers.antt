use Rattle.std.proofs.Common.{Result, subst}
use Rattle.theory_syntax.specs.Value as pure
use Rattle.theory_semantics.specs.Meaning.Evaluation.{Cause}
use Rattle.csp_value.specs.Value.{members_of, values_of}
use Rattle.csp_expression.specs.Evaluation.{IsAnswer}
use Rattle.csp_expression.proofs.Forming.{set_listed}
use Rattle.csp_expression.proofs.sets.set_of_values.Goals as goal

pub returns : goal.returns
returns g c =
    let P : Result pure.Value Cause → Type 0 = λ r. IsAnswer c.set.result r in
    subst P (set_listed (members_of c.from_values.result) (pure.sorted_values (values_of c.args.values.items)) c.from_values.ensures.members) c.set.ensures
