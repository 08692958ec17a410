-- The side that an internal choice takes.
use Rattle.std.specs.Prelude.{◌≡◌, Option, Some, None}
use Rattle.theory_syntax.specs.Process.{Process}
use Rattle.csp_moves.specs.declared.passage.Side.{Side}
use Rattle.csp_moves.specs.declared.passage.Side.TheVariants as side

abbrev pub IsChosen : Process → Process → Process → Option Side → Type 0
IsChosen p q t (Some side.Left) = t ≡ p
IsChosen p q t (Some side.Right) = t ≡ q
IsChosen p q t None = (¬ (t ≡ p)) × (¬ (t ≡ q))
