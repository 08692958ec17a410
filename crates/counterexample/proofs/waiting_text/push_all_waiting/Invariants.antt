use Rattle.std.proofs.Common.{◌≡◌, drop, ◌++◌, map}
use Rattle.std.specs.String.{string_bytes}
use Rattle.theory_explanation.specs.Waiting.{all_waiting}
use Rattle.counterexample.specs.Counterexample.{waiting_of}
use Rattle.counterexample.specs.PartNames.{part_names_listed}
use Rattle.counterexample.specs.Styles.{style_of}
use Rattle.counterexample.proofs.waiting_text.push_all_waiting.Given as goal

abbrev pub invariant-loop-part : goal.invariant-loop-part
invariant-loop-part g l =
    string_bytes l.text ++ all_waiting (style_of l.style) (part_names_listed l.parts) (map waiting_of (drop l.part-index l.waiting)) ≡ string_bytes l.initial.text ++ all_waiting (style_of l.style) (part_names_listed l.parts) (map waiting_of l.waiting)
