use Rattle.csp_value.proofs.field_set.FieldSet.contains.Goals as goal

pub returns : goal.returns
returns g c = c.contains_by_halving.ensures c.args.self.now.rising
