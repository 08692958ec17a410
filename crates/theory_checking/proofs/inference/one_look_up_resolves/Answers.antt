use Rattle.std.proofs.Common.{Some, None}
use Rattle.theory_checking.proofs.Unifying.{resolve_kind, resolve_open, from_resolved}
use Rattle.theory_checking.proofs.inference.one_look_up_resolves.Goals as goal

pub returns-clause-open : goal.returns-clause-open
returns-clause-open c = λ s c resolved. resolve_open s c resolved

pub returns-clause-kind : goal.returns-clause-kind
returns-clause-kind c = λ s a c sat. resolve_kind s a c sat

pub returns-clause-one : goal.returns-clause-one
returns-clause-one c = λ s t c d h. from_resolved s c d (Some t) h

pub returns-clause-none : goal.returns-clause-none
returns-clause-none c = λ s c d h. from_resolved s c d None h
