use Rattle.csp_value.proofs.field_set.FieldSetTryCopy.try_copy.Goals as goal

pub returns : goal.returns
returns g c = c.in_ok-values.ensures
