use Rattle.std.proofs.Common.{◌≡◌, take}
use Rattle.theory_semantics.specs.Meaning.Substitution.{put_pairs}
use Rattle.csp_expression.specs.Bindings.{bindings_of}
use Rattle.csp_events.specs.Events.{renaming_pairs_of}
use Rattle.csp_events.proofs.substitution.put_in_pairs.Given as goal

abbrev pub invariant-loop-pair : goal.invariant-loop-pair
invariant-loop-pair g l = renaming_pairs_of l.all.items ≡ put_pairs (bindings_of l.bindings) (renaming_pairs_of (take l.pair-index l.pairs))
