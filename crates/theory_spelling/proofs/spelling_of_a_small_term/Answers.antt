use Rattle.std.proofs.Common.{refl}
use Rattle.theory_spelling.specs.Spelling.{number_spelling, whole_spelling}
use Rattle.theory_spelling.proofs.spelling_of_a_small_term.Goals as goal

pub returns-clause-prefix : goal.returns-clause-prefix
unfolding number_spelling whole_spelling
returns-clause-prefix c = refl

pub returns-clause-bare : goal.returns-clause-bare
unfolding number_spelling whole_spelling
returns-clause-bare c = refl

pub returns-clause-constructor : goal.returns-clause-constructor
unfolding number_spelling whole_spelling
returns-clause-constructor c = refl

pub returns-clause-constructed : goal.returns-clause-constructed
unfolding number_spelling whole_spelling
returns-clause-constructed c = refl
