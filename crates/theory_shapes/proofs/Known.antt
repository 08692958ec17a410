-- A term is known by the bytes that spell it.
use Rattle.std.proofs.Common.{◌≡◌, List, length, sym, ◌∙◌}
use Rattle.std.specs.List.{AllByRecursion}
use Rattle.theory_syntax.specs.Process.{Process}
use Rattle.theory_spelling.specs.Spelling.{spelling}
use Rattle.theory_spelling.specs.Spellable.{IsSpellable}
use Rattle.theory_spelling.proofs.Laws.{same_spelling}
use Rattle.theory_shapes.specs.Shape.{Shape, fill, holes}
use Rattle.theory_shapes.specs.Operators.{IsSpellableShape}
use Rattle.theory_shapes.specs.Pieces.{in_turn, part_run, pieces}
use Rattle.theory_shapes.proofs.ByParts.{spellable_by_parts}
use Rattle.theory_shapes.proofs.Spelled.{spelled_whole}

pub known_by_pieces : (p : Process) (s : Shape) (parts : List Process) → length parts ≡ holes s → IsSpellable p → IsSpellableShape s → AllByRecursion IsSpellable parts → spelling p ≡ in_turn 0 (pieces s) (part_run parts) → p ≡ fill s parts
known_by_pieces p s parts long own shape all is = same_spelling p (fill s parts) own ((spellable_by_parts s parts long).1 (shape, all)) (is ∙ sym (spelled_whole s parts))
