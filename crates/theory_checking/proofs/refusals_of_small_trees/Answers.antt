use Rattle.theory_checking.proofs.CheckedTrees.{itself_row, again_row, unlike_row, bare_row, mixed_row, many_row}
use Rattle.theory_checking.proofs.CheckedRows.{unknown_row, freedom_row, parameter_row, class_row, count_row, empty_row, twice_row, large_row, events_row, kinds_row}
use Rattle.theory_checking.proofs.ClauseTrees as clauses
use Rattle.theory_checking.proofs.refusals_of_small_trees.Goals as goal

pub returns-clause-unknown : goal.returns-clause-unknown
returns-clause-unknown c = unknown_row

pub returns-clause-freedom : goal.returns-clause-freedom
returns-clause-freedom c = freedom_row

pub returns-clause-parameter : goal.returns-clause-parameter
returns-clause-parameter c = parameter_row

pub returns-clause-class : goal.returns-clause-class
returns-clause-class c = class_row

pub returns-clause-count : goal.returns-clause-count
returns-clause-count c = count_row

pub returns-clause-empty : goal.returns-clause-empty
returns-clause-empty c = empty_row

pub returns-clause-twice : goal.returns-clause-twice
returns-clause-twice c = twice_row

pub returns-clause-large : goal.returns-clause-large
returns-clause-large c = large_row

pub returns-clause-events : goal.returns-clause-events
returns-clause-events c = events_row

pub returns-clause-kinds : goal.returns-clause-kinds
returns-clause-kinds c = kinds_row

pub returns-clause-not_above : goal.returns-clause-not_above
returns-clause-not_above c = itself_row

pub returns-clause-parameter_again : goal.returns-clause-parameter_again
returns-clause-parameter_again c = again_row

pub returns-clause-other_sets : goal.returns-clause-other_sets
returns-clause-other_sets c = unlike_row

pub returns-clause-no_channel : goal.returns-clause-no_channel
returns-clause-no_channel c = bare_row

pub returns-clause-mixed_set : goal.returns-clause-mixed_set
returns-clause-mixed_set c = mixed_row

pub returns-clause-one_too_many : goal.returns-clause-one_too_many
returns-clause-one_too_many c = many_row

pub returns-clause-recursive : goal.returns-clause-recursive
returns-clause-recursive c = clauses.itself_row

pub returns-clause-bare : goal.returns-clause-bare
returns-clause-bare c = clauses.bare_row
