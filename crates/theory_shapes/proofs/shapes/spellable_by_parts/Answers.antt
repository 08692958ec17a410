use Rattle.theory_shapes.proofs.ByParts as lemma
use Rattle.theory_shapes.proofs.shapes.spellable_by_parts.Goals as goal

pub returns : goal.returns
returns c = lemma.spellable_by_parts
