use Rattle.std.proofs.Common.{◌≡◌, drop, ◌++◌, map}
use Rattle.std.specs.String.{string_bytes}
use Rattle.csp_value.specs.Action.{action_of}
use Rattle.theory_explanation.specs.Actions.{actions_behind}
use Rattle.csp_print.specs.Names.{names_of}
use Rattle.counterexample.proofs.actions.push_actions_behind.Given as goal

abbrev pub invariant-loop-action : goal.invariant-loop-action
invariant-loop-action g l =
    string_bytes l.text ++ actions_behind (names_of l.names) (map action_of (drop l.action-index l.actions))
    ≡ string_bytes l.initial.text ++ actions_behind (names_of l.names) (map action_of l.actions)
