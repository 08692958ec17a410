-- What is found so far is by the pairs so far.
use Rattle.std.proofs.Common.{◌≡◌, ◌++◌, flat_map, map, take}
use Rattle.csp_value.specs.Action.{event_of}
use Rattle.csp_events.specs.Sources.{channel_source}
use Rattle.csp_events.proofs.images.Images.add_channel_sources.Given as goal

abbrev pub invariant-loop-pair : goal.invariant-loop-pair
invariant-loop-pair g l = map event_of l.found.items ≡ map event_of l.fn.found.items ++ flat_map (channel_source (event_of l.image)) (take l.pair-index l.pair-items)
