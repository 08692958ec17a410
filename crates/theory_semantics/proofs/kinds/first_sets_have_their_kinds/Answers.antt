use Rattle.theory_semantics.proofs.KindedSets.{value_ok, given_ok, elements_ok, next_set, next_fields, all_sets}
use Rattle.theory_semantics.proofs.kinds.first_sets_have_their_kinds.Goals as goal

pub returns-clause-value : goal.returns-clause-value
returns-clause-value c = λ types kinds sets e k h v is. value_ok types kinds sets e k v h is

pub returns-clause-members : goal.returns-clause-members
returns-clause-members c = λ types kinds sets e k h vs is. elements_ok types kinds sets e k vs h is

pub returns-clause-next : goal.returns-clause-next
returns-clause-next c = next_set

pub returns-clause-all : goal.returns-clause-all
returns-clause-all c = all_sets

pub returns-clause-next_fields : goal.returns-clause-next_fields
returns-clause-next_fields c = next_fields

pub returns-clause-given : goal.returns-clause-given
returns-clause-given c = λ types kinds sets es ks s h g vs is. given_ok types kinds sets es ks s vs h g is
