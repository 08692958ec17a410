-- The order of what the steps of a shape lead to.
use Rattle.std.specs.Prelude.{List}
use Rattle.std.specs.declared.cmp.Ordering.{Ordering}
use Rattle.std.specs.Ordering.{ordering_then}
use Rattle.std.specs.Cmp.Lexicographic.{slice_cmp}
use Rattle.theory_syntax.specs.Order.{process_cmp}
use Rattle.theory_syntax.specs.Process.{Process}
use Rattle.theory_syntax.specs.Value.{Action, action_cmp}
use Rattle.theory_shapes.specs.Changes.{Change, changed}

-- Of parts in the holes of a shape, the first that differ decide.
abbrev pub parts_cmp : List Process → List Process → Ordering
parts_cmp = slice_cmp process_cmp

-- what two lists of changes make of the parts
abbrev pub targets_cmp : List Process → List Change → List Change → Ordering
targets_cmp parts cs ds = parts_cmp (changed cs parts) (changed ds parts)

-- two steps of a shape, by action and then by target
abbrev pub changing_cmp : List Process → Action × List Change → Action × List Change → Ordering
changing_cmp parts m n = ordering_then (action_cmp m.0 n.0) (targets_cmp parts m.1 n.1)
