use Rattle.std.proofs.Common.{◌≡◌, drop, ◌++◌}
use Rattle.std.specs.String.{string_bytes}
use Rattle.csp_events.specs.Events.{renaming_pairs_of}
use Rattle.theory_notation.specs.EventSets.{pairs_behind}
use Rattle.csp_print.specs.Names.{names_of}
use Rattle.csp_print.proofs.event_sets.push_pairs_behind.Given as goal

abbrev pub invariant-loop-pair : goal.invariant-loop-pair
invariant-loop-pair g l =
    string_bytes l.text ++ pairs_behind (names_of l.names) (renaming_pairs_of (drop l.pair-index l.pairs))
    ≡ string_bytes l.initial.text ++ pairs_behind (names_of l.names) (renaming_pairs_of l.pairs)
