use Rattle.csp_value.proofs.field_set.FieldSet.members.Goals as goal

pub returns : goal.returns
returns g c = c.members.ensures
