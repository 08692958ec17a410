use Rattle.std.specs.Prelude.{map}
use Rattle.csp_names.specs.Scopes.{known_sets}
use Rattle.csp_kinds.specs.Looking.{AddsConstructors}
use Rattle.csp_kinds.proofs.table.Table.push_constructors.Given as goal

abbrev pub invariant-loop-constructor : goal.invariant-loop-constructor
invariant-loop-constructor g l = AddsConstructors l.fn.self (map known_sets l.yielded) l.self
