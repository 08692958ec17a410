use Rattle.std.proofs.Common.{◌≡◌, ◌++◌, map}
use Rattle.std.specs.String.{string_bytes}
use Rattle.csp_value.specs.Action.{action_of}
use Rattle.csp_term.specs.Term.{process_of}
use Rattle.theory_explanation.proofs.Comparings.{steps_left}
use Rattle.csp_replay.specs.Along.{states_listed}
use Rattle.counterexample.specs.Counterexample.{origins_listed}
use Rattle.counterexample.specs.Stories.{steps_of}
use Rattle.counterexample.specs.Styles.{style_of}
use Rattle.counterexample.specs.PartNames.{part_names_listed}
use Rattle.counterexample.proofs.story.push_steps.Given as goal

abbrev pub invariant-loop-place : goal.invariant-loop-place
invariant-loop-place g l =
    string_bytes l.text ++ steps_left (style_of l.style) (map action_of l.story.path.now) (map process_of l.story.states.now) (origins_listed l.story.origins.now) (states_listed l.story.along.now) l.place (process_of l.told) (part_names_listed l.parts.items)
    ≡ string_bytes l.initial.text ++ steps_of (style_of l.style) l.story (process_of l.state)
