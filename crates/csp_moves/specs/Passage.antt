-- The passage that one of the code stands for.
use Rattle.theory_origins.specs.Origin as pure
use Rattle.csp_value.specs.Action.{event_of}
use Rattle.csp_moves.specs.declared.passage.Side.{Side}
use Rattle.csp_moves.specs.declared.passage.Side.TheVariants as side
use Rattle.csp_moves.specs.declared.passage.Passage.{Passage}
use Rattle.csp_moves.specs.declared.passage.Passage.TheVariants as variant

abbrev pub side_of : Side → pure.Side
side_of side.Left = pure.Left
side_of side.Right = pure.Right

abbrev pub passage_of : {A : Type 0} → Passage A → pure.Passage
passage_of (variant.OnSide s) = pure.OnSide (side_of s)
passage_of variant.InBody = pure.InBody
passage_of (variant.OnBranch s) = pure.OnBranch (side_of s)
passage_of variant.UnderGuard = pure.UnderGuard
passage_of variant.InChain = pure.InChain
passage_of (variant.SideEnds s) = pure.SideEnds (side_of s)
passage_of (variant.Hides e) = pure.Hides (event_of e)
passage_of (variant.Renames e f) = pure.Renames (event_of e) (event_of f)
