-- The name, and the number.
use Rattle.std.proofs.Common.{[], ◌∷◌}
use Rattle.std.specs.Prelude.{decimal}
use Rattle.json.specs.Token.{key, number}
use Rattle.explanation_objects.proofs.Putting.{further, token}
use Rattle.explanation_objects.proofs.fields.put_number.Goals as goal

pub returns : goal.returns
returns g c =
    let mid = c.key.new.self in
    let new = c.u64.new.self in
    let n = decimal c.args.number in
    further c.u64.result c.args.writer.now mid new (key c.args.name.now ∷ []) (number n ∷ []) (c.in_ok-key.ensures.room.0, c.in_ok-key.ensures.ok) (token c.u64.result mid new (number n) c.u64.ensures)
