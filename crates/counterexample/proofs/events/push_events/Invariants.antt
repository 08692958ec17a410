use Rattle.std.proofs.Common.{◌≡◌, [], ◌++◌, map}
use Rattle.std.specs.String.{string_bytes}
use Rattle.csp_value.specs.Action.{action_of}
use Rattle.theory_explanation.specs.Steps.{events_text}
use Rattle.theory_explanation.proofs.Folding.{events_left}
use Rattle.csp_print.specs.Names.{names_of}
use Rattle.counterexample.specs.Counterexample.{origins_listed}
use Rattle.counterexample.specs.PartNames.{part_names_listed}
use Rattle.counterexample.proofs.events.push_events.Given as goal

abbrev pub invariant-loop-place : goal.invariant-loop-place
invariant-loop-place g l =
    string_bytes l.text ++ events_left (names_of l.names) (map action_of l.path) (origins_listed l.origins) l.place (part_names_listed l.parts.items)
    ≡ string_bytes l.initial.text ++ events_text (names_of l.names) 1 [] (map action_of l.path) (origins_listed l.origins)
