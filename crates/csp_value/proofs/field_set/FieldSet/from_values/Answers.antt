use Rattle.csp_value.proofs.field_set.FieldSet.from_values.Goals as goal

pub returns : goal.returns
returns g c = c.from_values-values.ensures.members
