use Rattle.std.proofs.Common.{◌∷◌, []}
use Rattle.theory_checking.specs.Sites.{AsEquation, Used}
use Rattle.theory_checking.proofs.SingleSites.{unknown_stops}
use Rattle.csp_parse.specs.Names.{name_of}
use Rattle.csp_names.specs.declared.refusals.KindFault.TheVariants as fault
use Rattle.csp_names.specs.Meanings.{meaning_of}
use Rattle.csp_names.proofs.ChannelNames.{class_of_equation, stops_at}
use Rattle.csp_names.proofs.scope.Scope.equation.Goals as goal

pub returns-in-None-equation : goal.returns-in-None-equation
returns-in-None-equation g c env stands u =
    let n = name_of c.args.name in
    stops_at (Used env (AsEquation u) n ∷ []) c.at.result fault.WrongKind c.args.name.place c.at.ensures (class_of_equation env n (meaning_of c.in-Some.meaning) (c.in-Some.ensures env stands) u c.in-None-equation.ensures)

pub returns-in-None : goal.returns-in-None
returns-in-None g c env stands u =
    let n = name_of c.args.name in
    stops_at (Used env (AsEquation u) n ∷ []) c.at-in-None.result fault.UnknownName c.args.name.place c.at-in-None.ensures (unknown_stops env (AsEquation u) n (c.in-None.ensures env stands))
