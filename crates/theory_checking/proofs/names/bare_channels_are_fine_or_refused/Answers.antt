use Rattle.theory_checking.proofs.FineSites.{left_fine}
use Rattle.theory_checking.proofs.SingleSites.{left_without_fields, left_stops, right_fine, right_without_fields, right_counts_stop, right_sets_stop}
use Rattle.theory_checking.proofs.names.bare_channels_are_fine_or_refused.Goals as goal

pub returns-clause-left : goal.returns-clause-left
returns-clause-left c = λ env n right h equal. left_fine env n right h.0 equal.0 h.1 h.2 equal.1 equal.2

pub returns-clause-left_without_fields : goal.returns-clause-left_without_fields
returns-clause-left_without_fields c = λ env n right h count. left_without_fields env n right h.0 h.1 h.2 count

pub returns-clause-left_count : goal.returns-clause-left_count
returns-clause-left_count c = λ env n right h unlike. left_stops env n right h.0 unlike.0 h.1 h.2 unlike.1 unlike.2 unlike.3

pub returns-clause-right : goal.returns-clause-right
returns-clause-right c = λ env n left h alike. right_fine env n left h.0 alike.0.0 h.1 h.2 alike.0.2 alike.0.1 alike.1

pub returns-clause-right_without_fields : goal.returns-clause-right_without_fields
returns-clause-right_without_fields c = λ env n left h count. right_without_fields env n left h.0 h.1 h.2 count

pub returns-clause-right_count : goal.returns-clause-right_count
returns-clause-right_count c = λ env n left h unlike. right_counts_stop env n left h.0 unlike.0 h.1 h.2 unlike.1 unlike.2 unlike.3

pub returns-clause-right_sets : goal.returns-clause-right_sets
returns-clause-right_sets c = λ env n left h sets.
    right_sets_stop env n left h.0 sets.0 sets.1 sets.2 sets.3 h.1 sets.4 sets.5 sets.6 sets.7 sets.8 sets.9
