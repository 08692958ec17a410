use Rattle.std.proofs.Common.{take}
use Rattle.csp_value.specs.Action.{event_of}
use Rattle.csp_numbers.specs.Pairs.{AreNumbersOf, images_by}
use Rattle.csp_numbers.proofs.images.images_of_event.Given as goal

abbrev pub invariant-loop-pair : goal.invariant-loop-pair
invariant-loop-pair g l = AreNumbersOf l.alphabet (images_by l.alphabet (take l.pair-index l.pairs) (event_of l.event)) l.images.items
