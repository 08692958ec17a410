-- Small terms and their steps, for the laws.
use Rattle.std.specs.Prelude.{ℕ, [], map}
use Rattle.theory_syntax.specs.Process.{Process, Enumeration, Interleaving, Hiding, Skip, Stop}
use Rattle.theory_semantics.specs.Meaning.Stepping.{rule_steps}
use Rattle.theory_semantics.specs.Laws.Terms.{letters}
use Rattle.theory_shapes.specs.Parts.{parts_of, shape_of}
use Rattle.theory_shapes.specs.Changes.{Change}
use Rattle.theory_shapes.specs.ShapeSteps.{ShapeSteps, shape_steps}

-- the part in a hole's place
abbrev pub in_hole : ℕ → Process → Change
in_hole n p = record { hole = n; part = p }

-- the steps of a term, by those of its parts, with the channels a, b and c
abbrev pub letter_shape_steps : Process → ShapeSteps
letter_shape_steps p = shape_steps (letters []) (shape_of p) (parts_of p) (map (rule_steps (letters [])) (parts_of p))

-- `(SKIP \ {}) ||| STOP`
abbrev pub hidden_beside_stop : Process
hidden_beside_stop = Interleaving (Hiding Skip (Enumeration [])) Stop
