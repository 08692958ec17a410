-- The origin that one of the code stands for.
use Rattle.std.specs.Box.{box_value}
use Rattle.theory_origins.specs.Origin as pure
use Rattle.csp_value.specs.Action.{event_of}
use Rattle.csp_moves.specs.declared.origin.Origin.{Origin}
use Rattle.csp_moves.specs.declared.origin.Origin.TheOpen as layer
use Rattle.csp_moves.specs.declared.origin.Origin.TheFolds.{fold-Origin}
use Rattle.csp_moves.specs.Passage.{passage_of, side_of}

-- one layer, with the origins of the parts in their places
abbrev pub origin_step : {A : Type 0} → layer.Origin-F A pure.Origin → pure.Origin
origin_step (layer.Does e) = pure.Does (event_of e)
origin_step layer.Ends = pure.Ends
origin_step (layer.Unfolds n) = pure.Unfolds n.0
origin_step (layer.Chooses s) = pure.Chooses (side_of s)
origin_step layer.Slides = pure.Slides
origin_step (layer.Below passage o) = pure.Below (passage_of passage) (box_value o)
origin_step (layer.Together left right) = pure.Together (box_value left) (box_value right)

abbrev pub origin_of : {A : Type 0} → Origin A → pure.Origin
origin_of {A} = fold-Origin A pure.Origin origin_step
