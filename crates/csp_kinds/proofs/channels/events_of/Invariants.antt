use Rattle.std.specs.Prelude.{map, take}
use Rattle.theory_checking.specs.Sets.{product_of_sizes}
use Rattle.csp_value.specs.Fields.{field_values}
use Rattle.csp_kinds.specs.Members.{IsCount}
use Rattle.csp_kinds.proofs.channels.events_of.Given as goal

abbrev pub invariant-loop-set : goal.invariant-loop-set
invariant-loop-set g l = IsCount l.events (product_of_sizes (map field_values (take l.set-index l.sets)))
