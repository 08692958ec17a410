use Rattle.std.proofs.Common.{◌∷◌, []}
use Rattle.theory_checking.specs.Sites.{Used}
use Rattle.theory_checking.proofs.SingleSites.{unknown_stops}
use Rattle.csp_parse.specs.Names.{name_of}
use Rattle.csp_names.specs.declared.refusals.KindFault.TheVariants as fault
use Rattle.csp_names.specs.Meanings.{meaning_of}
use Rattle.csp_names.proofs.ChannelNames.{class_of_channel, stops_at}
use Rattle.csp_names.proofs.scope.Scope.channel.Goals as goal

pub returns-in-None-channel : goal.returns-in-None-channel
returns-in-None-channel g c env stands u uses =
    let n = name_of c.args.name in
    stops_at (Used env u n ∷ []) c.at.result fault.WrongKind c.args.name.place c.at.ensures (class_of_channel env n (meaning_of c.in-Some.meaning) (c.in-Some.ensures env stands) u uses c.in-None-channel.ensures)

pub returns-in-None : goal.returns-in-None
returns-in-None g c env stands u uses =
    let n = name_of c.args.name in
    stops_at (Used env u n ∷ []) c.at-in-None.result fault.UnknownName c.args.name.place c.at-in-None.ensures (unknown_stops env u n (c.in-None.ensures env stands))
