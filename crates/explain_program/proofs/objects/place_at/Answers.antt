-- The place of the number is that of the index before it.
use Rattle.explain_program.proofs.Placing.{placed}
use Rattle.explain_program.proofs.objects.place_at.Goals as goal

pub returns : goal.returns
returns c = placed c.args.places.now c.args.number c.place_of_index.result c.if-number-eq0.false c.place_of_index.ensures
