use Rattle.theory_checking.specs.Resolving as resolving
use Rattle.theory_checking.specs.Sites.{in_pair}
use Rattle.csp_parse.specs.Events.{pair_of}
use Rattle.csp_events.specs.Events.{renaming_pair_of}
use Rattle.csp_names.proofs.Resolves.{SoFar}
use Rattle.csp_names.proofs.scope.Scope.resolve_pairs.Given as goal

abbrev pub invariant-loop-pair : goal.invariant-loop-pair
invariant-loop-pair g l = SoFar l.self l.bound pair_of in_pair resolving.pair_of renaming_pair_of l.pairs l.pair-index l.resolved.items
