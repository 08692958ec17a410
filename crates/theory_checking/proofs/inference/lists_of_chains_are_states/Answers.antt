use Rattle.std.proofs.Common.{Some, refl}
use Rattle.std.specs.Prelude.{option_map}
use Rattle.theory_checking.specs.Inference.Chain.{with_ends, in_place_of}
use Rattle.theory_checking.proofs.Unifying.{longer_list, bound_list, same_after, same_before, same_none}
use Rattle.theory_checking.proofs.inference.lists_of_chains_are_states.Goals as goal

pub returns-clause-longer : goal.returns-clause-longer
returns-clause-longer c = λ cs n. longer_list cs n

pub returns-clause-bound : goal.returns-clause-bound
returns-clause-bound c = λ cs n m c small. bound_list (option_map (with_ends (in_place_of n c))) (Some c) cs n m refl small

pub returns-clause-after : goal.returns-clause-after
returns-clause-after c = λ s t u es same h. same_after s t u es same h

pub returns-clause-before : goal.returns-clause-before
returns-clause-before c = λ s t u es same h. same_before s t u es same h

pub returns-clause-none : goal.returns-clause-none
returns-clause-none c = λ s u es same h. same_none s u es same h
