-- Two bare channels, or two events.
use Rattle.std.proofs.Common.{Result, sym, ◌∙◌, subst}
use Rattle.theory_semantics.specs.Meaning.Evaluation.{Cause}
use Rattle.csp_events.specs.Channels.{declaring}
use Rattle.csp_events.specs.Events.{renaming_pair_of}
use Rattle.csp_events.specs.Imaging.{MakesMore}
use Rattle.csp_events.proofs.Naming.{Image, pair_of_channels, pair_of_events}
use Rattle.csp_events.proofs.images.Images.add_pair.Goals as goal

pub returns-then-are_channels : goal.returns-then-are_channels
returns-then-are_channels g c =
    let P : Result Image Cause → Type 0 = λ one. MakesMore c.args.self.now one c.add_channels.result c.add_channels.new.self in
    subst P (sym (pair_of_channels (declaring c.args.types.now c.args.channels.now) (renaming_pair_of c.args.pair.now) (sym c.are_channels.ensures ∙ c.if-are_channels.true))) (c.add_channels.ensures c.args.types.now)

pub returns-else-are_channels : goal.returns-else-are_channels
returns-else-are_channels g c =
    let P : Result Image Cause → Type 0 = λ one. MakesMore c.args.self.now one c.add_events.result c.add_events.new.self in
    subst P (sym (pair_of_events (declaring c.args.types.now c.args.channels.now) (renaming_pair_of c.args.pair.now) (sym c.are_channels.ensures ∙ c.if-are_channels.false))) c.add_events.ensures
