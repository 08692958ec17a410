-- The declarations so far are passed.
use Rattle.csp_parse.specs.Declarations.{script_of}
use Rattle.csp_kinds.proofs.Passing.{Passed}
use Rattle.csp_kinds.proofs.items.resolve_items.Given as goal

abbrev pub invariant-loop-number : goal.invariant-loop-number
invariant-loop-number g l = Passed (script_of l.fn.raw) l.fn.sets.refused l.number l.bound l.items
