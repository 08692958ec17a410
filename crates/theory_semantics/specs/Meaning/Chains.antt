-- Chains of an operator.
use Rattle.std.specs.Prelude.{List, [], ◌∷◌}
use Rattle.theory_syntax.specs.Process.{Process}

-- an operator over a list, grouped to the left, from its first process on
abbrev pub left_grouped : (Process → Process → Process) → Process → List Process → Process
left_grouped op p [] = p
left_grouped op p (q ∷ qs) = left_grouped op (op p q) qs

-- the same, or a process of its own for the empty list
abbrev pub chain : (Process → Process → Process) → Process → List Process → Process
chain op empty [] = empty
chain op empty (p ∷ ps) = left_grouped op p ps
