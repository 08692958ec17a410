use Rattle.theory_semantics.specs.Meaning.Evaluation.{values}
use Rattle.theory_semantics.specs.Meaning.Events.{condition, elements, communications, prefix_communications, event_of, beginning_of, event_test, renaming, called}
use Rattle.theory_semantics.specs.Kinds.Processes.{IsClosedTerm}
use Rattle.theory_semantics.proofs.Misfits.{gives_no_misfit}
use Rattle.theory_semantics.proofs.KindedTerms.{condition_any, elements_kind, communications_fit, prefix_fit, event_any, beginning_any, event_test_any, renaming_any, in_turn_values, called_closed}
use Rattle.theory_semantics.proofs.kinds.parts_are_no_misfits.Goals as goal

pub returns-clause-conditions : goal.returns-clause-conditions
returns-clause-conditions c = λ script kinds sets e h. gives_no_misfit _ (condition script.types e) (condition_any script kinds sets e h)

pub returns-clause-elements : goal.returns-clause-elements
returns-clause-elements c = λ script kinds sets e k h. gives_no_misfit _ (elements script.types e) (elements_kind script kinds sets e k h)

pub returns-clause-fields : goal.returns-clause-fields
returns-clause-fields c = λ script kinds sets n fs ks e h. gives_no_misfit _ (prefix_communications script n fs) (prefix_fit script kinds sets n fs ks e h)

pub returns-clause-event_sets : goal.returns-clause-event_sets
returns-clause-event_sets c = λ script kinds sets a h. gives_no_misfit _ (event_test script a) (event_test_any script kinds sets a h)

pub returns-clause-renamings : goal.returns-clause-renamings
returns-clause-renamings c = λ script kinds sets rs h. gives_no_misfit _ (renaming script rs) (renaming_any script kinds sets rs h)

pub returns-clause-calls : goal.returns-clause-calls
returns-clause-calls c = λ script kinds good n es ks e h. gives_no_misfit (IsClosedTerm script kinds) (called script n es) (called_closed script kinds good.sets good.equations n es ks e h)

pub returns-clause-open_fields : goal.returns-clause-open_fields
returns-clause-open_fields c = λ script kinds sets bs scope fs s ks fit h g. gives_no_misfit _ (communications script.types bs fs s) (communications_fit script kinds sets bs scope fs s ks fit h g)

pub returns-clause-events : goal.returns-clause-events
returns-clause-events c = λ script kinds sets e h. gives_no_misfit _ (event_of script e) (event_any script kinds sets e h)

pub returns-clause-beginnings : goal.returns-clause-beginnings
returns-clause-beginnings c = λ script kinds sets e h. gives_no_misfit _ (beginning_of script e) (beginning_any script kinds sets e h)

pub returns-clause-arguments : goal.returns-clause-arguments
returns-clause-arguments c = λ script kinds sets es ks h. gives_no_misfit _ (values script.types es) (in_turn_values script kinds sets es ks h)
