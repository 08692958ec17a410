use Rattle.std.proofs.Common.{◌≡◌, ◌/◌, ap, ◌∙◌, length}
use Rattle.std.specs.Prelude.{min}
use Rattle.std.specs.Str.{chars}
use Rattle.std.proofs.lemmas.Iterator.{YieldsList-from_chars}
use Rattle.std.proofs.lemmas.Iterator.Consumers.{count_from_yields_List}
use Rattle.diagnostics.proofs.nearest_names.most_edits.Goals as goal

pub returns : goal.returns
returns c =
    let count : c.count-length.result ≡ length (chars c.args.word.now) = count_from_yields_List c.chars.result _ c.count-length.ensures.ran (YieldsList-from_chars c.args.word.now c.utf8.word cc) in
    c.min.ensures ∙ ap (λ n. min 2 (n / 2)) count
