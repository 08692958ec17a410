-- The name, and the text.
use Rattle.std.proofs.Common.{[], ◌∷◌}
use Rattle.json.specs.Token.{key, string}
use Rattle.explanation_objects.proofs.Putting.{further, token}
use Rattle.explanation_objects.proofs.fields.put_text.Goals as goal

pub returns : goal.returns
returns g c =
    let mid = c.key.new.self in
    let new = c.string.new.self in
    further c.string.result c.args.writer.now mid new (key c.args.name.now ∷ []) (string c.args.text.now ∷ []) (c.in_ok-key.ensures.room.0, c.in_ok-key.ensures.ok)
    (token c.string.result mid new (string c.args.text.now) c.string.ensures)
