use Rattle.theory_semantics.specs.Kinds.Values.{IsValueOf, MembersHaveKind}
use Rattle.theory_semantics.specs.Meaning.Evaluation.{value, values, given_values}
use Rattle.theory_semantics.proofs.Misfits.{gives_value, gives_no_misfit}
use Rattle.theory_semantics.proofs.KindedValues.{value_kind, values_kind, given_kind}
use Rattle.theory_semantics.proofs.kinds.values_have_their_kinds.Goals as goal

pub returns-clause-value : goal.returns-clause-value
returns-clause-value c = λ types kinds sets e k h v is. gives_value (λ w. IsValueOf types kinds w k) (value types e) v (value_kind types kinds sets e k h) is

pub returns-clause-no_misfit : goal.returns-clause-no_misfit
returns-clause-no_misfit c = λ types kinds sets e k h. gives_no_misfit (λ w. IsValueOf types kinds w k) (value types e) (value_kind types kinds sets e k h)

pub returns-clause-values : goal.returns-clause-values
returns-clause-values c = λ types kinds sets es k h vs is. gives_value (λ ws. MembersHaveKind types kinds ws k) (values types es) vs (values_kind types kinds sets es k h) is

pub returns-clause-no_misfits : goal.returns-clause-no_misfits
returns-clause-no_misfits c = λ types kinds sets es k h. gives_no_misfit (λ ws. MembersHaveKind types kinds ws k) (values types es) (values_kind types kinds sets es k h)

pub returns-clause-given : goal.returns-clause-given
returns-clause-given c = λ types kinds sets es ks s h g vs is. (gives_value _ (given_values types es s) vs (given_kind types kinds sets es ks s h g) is).1

pub returns-clause-given_no_misfits : goal.returns-clause-given_no_misfits
returns-clause-given_no_misfits c = λ types kinds sets es ks s h g. gives_no_misfit _ (given_values types es s) (given_kind types kinds sets es ks s h g)
