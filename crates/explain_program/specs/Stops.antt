-- The path that stopped a search, as an answer keeps it.
use Rattle.std.specs.Prelude.{List, Option, map, option_map}
use Rattle.std.specs.declared.vec.Vec.{Vec}
use Rattle.theory_syntax.specs.Value as pure
use Rattle.csp_value.specs.Action.{action_of}
use Rattle.csp_value.specs.declared.action.Action.{Action}

abbrev pub stop_kept : {A : Type 0} → Option (Vec (Action A) A) → Option (List pure.Action)
stop_kept stop = option_map (λ path. map action_of path.items) stop
