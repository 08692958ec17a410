use Rattle.std.proofs.Common.{[], ◌∷◌}
use Rattle.theory_semantics.proofs.KindedPutting.{put_expression_kind, put_fields_kinds, put_is_event_set, put_all_pairs, put_kinded, fit_nothing, fit_more}
use Rattle.theory_semantics.proofs.kinds.putting_in_keeps_kinds.Goals as goal

pub returns-clause-expressions : goal.returns-clause-expressions
returns-clause-expressions c = λ types kinds bs scope left e k fit h. put_expression_kind types kinds bs scope left fit e k h

pub returns-clause-fields : goal.returns-clause-fields
returns-clause-fields c = λ types kinds bs scope left fs ks fit h. put_fields_kinds types kinds bs scope left fs ks fit h

pub returns-clause-event_sets : goal.returns-clause-event_sets
returns-clause-event_sets c = λ types kinds bs scope left a fit h. put_is_event_set types kinds bs scope left fit a h

pub returns-clause-pairs : goal.returns-clause-pairs
returns-clause-pairs c = λ script kinds bs scope left rs fit h. put_all_pairs script kinds bs scope left fit rs h

pub returns-clause-processes : goal.returns-clause-processes
returns-clause-processes c = λ script kinds bs scope left p fit h. put_kinded script kinds bs scope left p fit h

pub returns-clause-one_value : goal.returns-clause-one_value
returns-clause-one_value c = λ script kinds n v k p g h.
    put_kinded script kinds ((n, v) ∷ []) ((n, k) ∷ []) [] p (fit_more script.types kinds [] [] [] n v k g (fit_nothing script.types kinds [])) h
