-- The word of the side.
use Rattle.std.proofs.Common.{ℕ, List, [], ◌∷◌, subst}
use Rattle.json.specs.Token.{string}
use Rattle.explanation_objects.specs.Putting.{PutsTokens}
use Rattle.explanation_objects.proofs.Putting.{token}
use Rattle.explanation_objects.proofs.ways.put_side.Goals as goal

pub returns : goal.returns
returns g c =
    let old = c.args.writer.now in
    let new = c.string.new.self in
    let P : List ℕ → Type 0 = λ t. PutsTokens c.string.result old new (string t ∷ []) in
    subst P c.side_word.ensures (token c.string.result old new (string c.side_word.result.now) c.string.ensures)
