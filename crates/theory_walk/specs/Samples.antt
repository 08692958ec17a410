-- Small walks.
use Rattle.std.specs.Prelude.{[], ◌∷◌, Some}
use Rattle.theory_syntax.specs.Value.{Tau}
use Rattle.theory_syntax.specs.Process.{Omega, Stop}
use Rattle.theory_origins.specs.Origin.{Does, Unfolds}
use Rattle.theory_notation.specs.Samples.{p}
use Rattle.theory_explanation.specs.Samples.{c, c_two, event}
use Rattle.theory_walk.specs.Moves.{Move}
use Rattle.theory_walk.specs.Trails.{Trail, begun}

-- `P` is unfolded, and so it is again
abbrev pub unfolds : Move
unfolds = record { action = Tau; origin = Some (Unfolds 0); target = p }

abbrev pub once : Trail
once = record { start = p; taken = unfolds ∷ [] }

-- `c.1` leads to `STOP`, and to `c!2 -> STOP`
abbrev pub stops : Move
stops = record { action = c 1; origin = Some (Does (event 1)); target = Stop }

abbrev pub goes_on : Move
goes_on = record { action = c 1; origin = Some (Does (event 1)); target = c_two }

abbrev pub ended : Trail
ended = begun Omega
