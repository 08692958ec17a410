-- What the pairs so far make of events.
use Rattle.std.proofs.Common.{take}
use Rattle.theory_semantics.specs.Meaning.Events.{renaming}
use Rattle.csp_events.specs.Events.{renaming_pairs_of}
use Rattle.csp_events.specs.Channels.{declaring}
use Rattle.csp_events.specs.Imaging.{AreMade}
use Rattle.csp_events.proofs.images.Images.of.Given as goal

abbrev pub invariant-loop-pair : goal.invariant-loop-pair
invariant-loop-pair g l = AreMade l.images (renaming (declaring l.types l.channels) (renaming_pairs_of (take l.pair-index l.pairs)))
