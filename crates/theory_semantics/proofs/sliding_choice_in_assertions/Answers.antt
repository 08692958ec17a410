use Rattle.theory_semantics.proofs.SlidingRows.{slides_violates, slides_refines, ends_violates}
use Rattle.theory_semantics.proofs.sliding_choice_in_assertions.Goals as goal

pub returns-clause-slides_away : goal.returns-clause-slides_away
returns-clause-slides_away c = slides_violates

pub returns-clause-allowed : goal.returns-clause-allowed
returns-clause-allowed c = slides_refines

pub returns-clause-stops : goal.returns-clause-stops
returns-clause-stops c = ends_violates
