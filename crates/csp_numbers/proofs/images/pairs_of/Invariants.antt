use Rattle.std.proofs.Common.{take}
use Rattle.theory_semantics.specs.Meaning.Events.{renaming}
use Rattle.csp_events.specs.Events.{renaming_pairs_of}
use Rattle.csp_term.specs.Script.{script_of_parts}
use Rattle.csp_numbers.specs.Pairs.{Make}
use Rattle.csp_numbers.proofs.images.pairs_of.Given as goal

abbrev pub invariant-loop-pair : goal.invariant-loop-pair
invariant-loop-pair g l = Make l.alphabet l.all.items (renaming (script_of_parts l.script) (renaming_pairs_of (take l.pair-index l.pairs)))
