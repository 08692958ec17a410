use Rattle.std.proofs.Common.{◌≡◌, ℕ, List, ◌∷◌}
use Rattle.csp_rows.specs.Told.{items_of}
use Rattle.csp_rows.proofs.SoFar.{IsSplitSoFar}
use Rattle.csp_rows.proofs.splitting.split.Given as goal

abbrev pub invariant-loop-hole : goal.invariant-loop-hole
invariant-loop-hole g l =
    (first : List ℕ) × (items_of l.pieces ≡ first ∷ items_of l.later) × IsSplitSoFar l.parts l.bytes first (items_of l.later) (items_of l.tried) l.hole l.numbers.items l.places.items l.rest
