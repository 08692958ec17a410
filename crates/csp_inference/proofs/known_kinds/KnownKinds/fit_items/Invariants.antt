use Rattle.std.proofs.Common.{map, take}
use Rattle.csp_parse.specs.Declarations as tree
use Rattle.csp_term.specs.Script.{script_of_parts}
use Rattle.csp_inference.specs.Items.{item_of}
use Rattle.csp_inference.proofs.Fitting.{FitsSoFar}
use Rattle.csp_inference.proofs.known_kinds.KnownKinds.fit_items.Given as goal

abbrev pub invariant-loop-item : goal.invariant-loop-item
invariant-loop-item g l = FitsSoFar (tree.script_of l.raw) (script_of_parts l.script) l.initial.self l.self (map item_of (take l.item-index l.item-items))
