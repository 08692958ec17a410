use Rattle.std.proofs.Common.{◌≡◌, ◌++◌, drop, map}
use Rattle.theory_explanation.specs.Legend.{side_text}
use Rattle.csp_moves.specs.Passage.{side_of}
use Rattle.explanation_objects.specs.Putting.{string_tokens}
use Rattle.explanation_objects.proofs.ways.put_sides.Given as goal

abbrev pub invariant-loop-side : goal.invariant-loop-side
invariant-loop-side g l =
    (l.writer.before ≡ l.initial.writer.before)
    × (l.writer.tokens ++ string_tokens (map side_text (map side_of (drop l.side-index l.way))) ≡ l.initial.writer.tokens ++ string_tokens (map side_text (map side_of l.way)))
