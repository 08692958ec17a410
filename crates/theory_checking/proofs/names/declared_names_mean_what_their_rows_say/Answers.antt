use Rattle.theory_checking.proofs.RowMeanings.{meaning_is_row, meaning_above_is_row, undeclared_means_nothing, row_above, row_below, meant_by_row}
use Rattle.theory_checking.proofs.names.declared_names_mean_what_their_rows_say.Goals as goal

pub returns-clause-all : goal.returns-clause-all
returns-clause-all c = meaning_is_row

pub returns-clause-above : goal.returns-clause-above
returns-clause-above c = meaning_above_is_row

pub returns-clause-here : goal.returns-clause-here
returns-clause-here c = row_above

pub returns-clause-further_down : goal.returns-clause-further_down
returns-clause-further_down c = row_below

pub returns-clause-some : goal.returns-clause-some
returns-clause-some c = meant_by_row

pub returns-clause-nowhere : goal.returns-clause-nowhere
returns-clause-nowhere c = undeclared_means_nothing
