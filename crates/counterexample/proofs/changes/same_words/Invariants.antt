use Rattle.std.proofs.Common.{length, ◌-◌, ◌≡◌, ◌≤◌, ◌+◌, drop}
use Rattle.theory_explanation.specs.Changing.{same_words}
use Rattle.counterexample.specs.Texts.{texts_of}
use Rattle.counterexample.proofs.changes.same_words.Given as goal

abbrev pub invariant-loop-count : goal.invariant-loop-count
invariant-loop-count l =
    (l.count ≤ length l.old) × (l.count ≤ length l.new)
    × (same_words (texts_of l.old) (texts_of l.new) ≡ l.count + same_words (drop l.count (texts_of l.old)) (drop l.count (texts_of l.new)))

abbrev pub decreases-loop-count : goal.decreases-loop-count
decreases-loop-count l = length l.old - l.count
