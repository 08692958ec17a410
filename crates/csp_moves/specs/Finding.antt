-- The origin that is found.
use Rattle.std.specs.Prelude.{Option}
use Rattle.std.specs.Option.{option_map}
use Rattle.theory_origins.specs.Origin as pure
use Rattle.csp_moves.specs.declared.origin.Origin.{Origin}
use Rattle.csp_moves.specs.Origin.{origin_of}

abbrev pub origin_found : {A : Type 0} → Option (Origin A) → Option pure.Origin
origin_found found = option_map origin_of found
