use Rattle.theory_checking.proofs.Spellings.{bound_once, with_one_more, number_stays_with, bound_are_numbered, place_of_spelling, spelling_at_place}
use Rattle.theory_checking.proofs.names.bound_names_have_numbers.Goals as goal

pub returns-clause-once : goal.returns-clause-once
returns-clause-once c = bound_once

pub returns-clause-next : goal.returns-clause-next
returns-clause-next c = with_one_more

pub returns-clause-kept : goal.returns-clause-kept
returns-clause-kept c = number_stays_with

pub returns-clause-all : goal.returns-clause-all
returns-clause-all c = bound_are_numbered

pub returns-clause-place : goal.returns-clause-place
returns-clause-place c = place_of_spelling

pub returns-clause-spelling : goal.returns-clause-spelling
returns-clause-spelling c = spelling_at_place
