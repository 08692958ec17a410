use Rattle.std.proofs.Common.{◌↔◌, Bool, IsTrue, sym, subst}
use Rattle.theory_shapes.specs.Parts.{IsPart}
use Rattle.row_steps.proofs.FirstBytes.{told_by_first}
use Rattle.row_steps.proofs.heads.is_part.Goals as goal

pub returns : goal.returns
returns c = λ p is. subst (λ (b : Bool). IsTrue b ↔ IsPart p) (sym c.begins_a_part.ensures) (told_by_first c.args.bytes.now p is)
