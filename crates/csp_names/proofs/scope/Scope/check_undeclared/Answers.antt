use Rattle.std.proofs.Common.{◌∷◌, []}
use Rattle.theory_checking.specs.Sites.{BoundThere}
use Rattle.csp_parse.specs.Names.{name_of}
use Rattle.csp_names.specs.declared.refusals.KindFault.TheVariants as fault
use Rattle.csp_names.proofs.ChannelNames.{stops_at}
use Rattle.csp_names.proofs.Fields.{declared_stops, undeclared_fine}
use Rattle.csp_names.proofs.scope.Scope.check_undeclared.Goals as goal

pub returns-in-Some : goal.returns-in-Some
returns-in-Some g c bound env stands =
    let n = name_of c.args.name in
    stops_at (BoundThere env n ∷ []) c.at.result fault.DeclaredTwice c.args.name.place c.at.ensures (declared_stops c.args.self.now n c.find.result c.find.ensures c.in-Some.field-0 c.in-Some.is bound env stands)

pub returns-in-None : goal.returns-in-None
returns-in-None g c bound env stands = undeclared_fine c.args.self.now (name_of c.args.name) c.find.result c.find.ensures c.in-None.is bound env stands
