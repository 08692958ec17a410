use Rattle.std.proofs.Common.{◌≡◌, ◌∙◌, ap, rules, refl, length, slice_range, min}
use Rattle.std.proofs.lemmas.Grind.{common_steps}
use Rattle.program.proofs.FileBeginnings.{take_least}
use Rattle.program.proofs.one_text.OneTextFiles.read.Goals as goal

pub returns-in-Ok-clause-holds : goal.returns-in-Ok-clause-holds
returns-in-Ok-clause-holds g c =
    let text = c.args.self.now.text.now in
    let copied : c.in-Ok.bytes.items ≡ slice_range text 0 c.min-most.result = search (rules, common_steps) in
    let least : c.min-most.result ≡ min (length text) 65537 = search rules in
    record { text = text; held = (search rules, refl); is = copied ∙ ap (slice_range text 0) least ∙ take_least 65537 text }
