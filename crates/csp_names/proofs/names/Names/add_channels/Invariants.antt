use Rattle.std.proofs.Common.{[], length, replicate}
use Rattle.theory_checking.specs.Names.{ChannelName}
use Rattle.csp_parse.specs.Names.{name_of}
use Rattle.csp_names.proofs.NamesAdded.{AddsFirst}
use Rattle.csp_names.proofs.names.Names.add_channels.Given as goal

abbrev pub invariant-loop-name : goal.invariant-loop-name
invariant-loop-name g l = AddsFirst name_of ChannelName (length l.fn.self.fields.items) l.channels l.name-index l.fn.self l.self [] (replicate l.name-index l.fields)
