use Rattle.csp_events.specs.Events.{renaming_pair_of}
use Rattle.theory_spelling.specs.Spelling.{pair_spelling}
use Rattle.theory_spelling.specs.Ranges.{IsInRangePair}
use Rattle.csp_spell.proofs.Pushing.{Put, Gone}
use Rattle.csp_spell.proofs.events.push_pairs.Given as goal

abbrev pub invariant-loop-pair : goal.invariant-loop-pair
invariant-loop-pair g l = Put pair_spelling renaming_pair_of l.pairs l.fn.bytes.items l.bytes.items l.pair-index × Gone IsInRangePair renaming_pair_of l.pairs l.pair-index
