use Rattle.std.proofs.Common.{◌≡◌, ◌-◌}
use Rattle.csp_events.specs.Events.{renaming_pairs_of}
use Rattle.theory_spelling.specs.Reading.{items_at, pair_at}
use Rattle.csp_spell.proofs.Repeating.{with_front}
use Rattle.csp_spell.proofs.read_events.read_each_pair.Given as goal

abbrev pub invariant-loop : goal.invariant-loop
invariant-loop g l = with_front (renaming_pairs_of l.pairs.items) (items_at (pair_at l.depth) (l.count - l.counter) l.rest) ≡ items_at (pair_at l.depth) l.count l.fn.bytes
