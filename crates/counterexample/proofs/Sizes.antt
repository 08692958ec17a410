-- How much there is of an origin to go down.
use Rattle.std.proofs.Common.{ℕ, suc, ◌+◌}
use Rattle.theory_origins.specs.Origin as pure
use Rattle.theory_origins.specs.Origin.{Does, Ends, Unfolds, Chooses, Slides, Below, Together}

abbrev pub origin_size : pure.Origin → ℕ
origin_size (Does e) = 1
origin_size Ends = 1
origin_size (Unfolds n) = 1
origin_size (Chooses side) = 1
origin_size Slides = 1
origin_size (Below passage part) = suc (origin_size part)
origin_size (Together left right) = suc (origin_size left + origin_size right)
