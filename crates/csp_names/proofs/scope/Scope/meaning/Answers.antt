use Rattle.std.proofs.Common.{◌∙◌, sym}
use Rattle.csp_parse.specs.Names.{name_of}
use Rattle.csp_names.proofs.NameMeanings.{bound_means, unbound_means}
use Rattle.csp_names.proofs.scope.Scope.meaning.Goals as goal

pub returns-in-Some : goal.returns-in-Some
returns-in-Some g c env stands = bound_means c.args.self.now c.args.bound.now env stands (name_of c.args.name) c.in-Some.bound.0 (c.in-Some.ensures stands.in_order)

pub returns-in-None : goal.returns-in-None
returns-in-None g c env stands = unbound_means c.args.self.now c.args.bound.now env stands (name_of c.args.name) (c.in-None.ensures stands.in_order) ∙ sym (c.declared.ensures stands.texts)
