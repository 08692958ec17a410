use Rattle.theory_checking.proofs.FineSites.{expression_fine, constructor_fine, equation_fine, event_fine}
use Rattle.theory_checking.proofs.SingleSites.{unknown_stops, class_stops, bare_stops, constructor_stops, arguments_stop, fields_stop, productions_fine, productions_stop}
use Rattle.theory_checking.proofs.names.names_in_use_are_fine_or_refused.Goals as goal

pub returns-clause-unknown : goal.returns-clause-unknown
returns-clause-unknown c = unknown_stops

pub returns-clause-class : goal.returns-clause-class
returns-clause-class c = λ env u n h. class_stops env u n h.0 h.1 h.2

pub returns-clause-expression : goal.returns-clause-expression
returns-clause-expression c = λ env n h alone. expression_fine env n h.0 h.1 h.2 alone

pub returns-clause-bare : goal.returns-clause-bare
returns-clause-bare c = λ env n h other. bare_stops env n h.0 other.0 h.1 h.2 other.1 other.2

pub returns-clause-constructor : goal.returns-clause-constructor
returns-clause-constructor c = λ env k n h count. constructor_fine env k n h.0 h.1 h.2 count

pub returns-clause-constructor_fields : goal.returns-clause-constructor_fields
returns-clause-constructor_fields c = λ env k n h other. constructor_stops env k n h.0 other.0 h.1 h.2 other.1 other.2

pub returns-clause-equation : goal.returns-clause-equation
returns-clause-equation c = λ env k n h count. equation_fine env k n h.0 h.1 h.2 count

pub returns-clause-arguments : goal.returns-clause-arguments
returns-clause-arguments c = λ env k n h other. arguments_stop env k n h.0 other.0 h.1 h.2 other.1 other.2

pub returns-clause-event : goal.returns-clause-event
returns-clause-event c = λ env k n h count. event_fine env k n h.0 h.1 h.2 count

pub returns-clause-fields : goal.returns-clause-fields
returns-clause-fields c = λ env k n h other. fields_stop env k n h.0 other.0 h.1 h.2 other.1 other.2

pub returns-clause-productions : goal.returns-clause-productions
returns-clause-productions c = λ env k n h enough. productions_fine env k n h.0 enough.0 h.1 h.2 enough.1 enough.2

pub returns-clause-too_many : goal.returns-clause-too_many
returns-clause-too_many c = λ env k n h less. productions_stop env k n h.0 less.0 h.1 h.2 less.1 less.2
