use Rattle.std.proofs.Common.{◌∙◌, ap}
use Rattle.printed_names.specs.Texts.{spelled}
use Rattle.printed_names.proofs.Inserted.{inserted}
use Rattle.printed_names.proofs.bound_names.BoundNames.add.Goals as goal

pub returns : goal.returns
returns g c =
    let before = c.args.self.now in
    ap spelled c.in_ok-insert.ensures.keys ∙ inserted c.args.spelling c.utf8.spelling before.spellings.keys before.texts
