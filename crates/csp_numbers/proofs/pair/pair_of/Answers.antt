use Rattle.std.proofs.Common.{List, Result, sym, ◌∙◌, subst}
use Rattle.theory_syntax.specs.Value.{Event}
use Rattle.theory_semantics.specs.Meaning.Evaluation.{Cause}
use Rattle.theory_semantics.specs.Meaning.Events.{pair_images}
use Rattle.theory_shapes.specs.Alphabet.{alphabet}
use Rattle.csp_events.specs.Events.{renaming_pair_of}
use Rattle.csp_term.specs.Script.{script_of_parts}
use Rattle.csp_events.proofs.Naming.{Image, pair_of_channels, pair_of_events}
use Rattle.csp_numbers.specs.Pairs.{IsPairOf}
use Rattle.csp_numbers.proofs.pair.pair_of.Goals as goal

pub returns-then-are_channels : goal.returns-then-are_channels
returns-then-are_channels g c =
    let s = script_of_parts c.args.script.now in
    let r = renaming_pair_of c.args.pair.now in
    let P : Result Image Cause → Type 0 = λ one. IsPairOf (alphabet s) c.pair_of_channels.result one in
    let Q : List Event → Type 0 = λ es. IsPairOf es c.pair_of_channels.result (pair_images s r) in
    subst Q (sym c.requires) (subst P (sym (pair_of_channels s r (sym c.are_channels.ensures ∙ c.if-are_channels.true))) c.pair_of_channels.ensures)

pub returns-else-are_channels : goal.returns-else-are_channels
returns-else-are_channels g c =
    let P : Result Image Cause → Type 0 = λ one. IsPairOf c.args.alphabet.now c.pair_of_events.result one in
    subst P (sym (pair_of_events (script_of_parts c.args.script.now) (renaming_pair_of c.args.pair.now) (sym c.are_channels.ensures ∙ c.if-are_channels.false))) c.pair_of_events.ensures
