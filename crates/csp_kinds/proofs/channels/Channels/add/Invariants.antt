use Rattle.std.specs.Prelude.{map, take}
use Rattle.csp_parse.specs.Names.{name_of}
use Rattle.csp_names.specs.Scopes.{known_sets}
use Rattle.csp_kinds.specs.Channels.{sets_in}
use Rattle.csp_kinds.specs.Looking.{fault_in}
use Rattle.csp_kinds.proofs.HeadsInTurn.{HeadsSoFar}
use Rattle.csp_kinds.proofs.channels.Channels.add.Given as goal

abbrev pub invariant-loop-name : goal.invariant-loop-name
invariant-loop-name g l =
    HeadsSoFar (sets_in l.fn.self) l.fn.self.events (known_sets l.sets) (map name_of (take l.name-index l.names)) (sets_in l.self) l.self.events (fault_in l.fault)
