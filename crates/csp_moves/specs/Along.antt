-- What is told along the ways of a step.
use Rattle.std.specs.Prelude.{Contains, List, Option, Some, None}
use Rattle.std.specs.List.{AllByRecursion}
use Rattle.theory_syntax.specs.Process.{Script}
use Rattle.theory_origins.specs.Origin.{Origin}
use Rattle.theory_origins.specs.Ways.{TellsBy, Way}

-- an origin along one of them; or nothing, where all are closed
abbrev pub TellsAlong : Script → List Way → Option Origin → Type 0
TellsAlong s ways (Some o) = (way : Way) × Contains ways way × TellsBy s way (Some o)
TellsAlong s ways None = AllByRecursion (λ way. TellsBy s way None) ways
