-- The first taus are told, and no more than are to be.
use Rattle.std.proofs.Common.{◌≡◌, ◌≤◌, ◌+◌, [], ◌++◌, map}
use Rattle.std.specs.String.{string_bytes}
use Rattle.csp_term.specs.Term.{process_of}
use Rattle.theory_explanation.specs.Loops.{few_taus}
use Rattle.theory_explanation.specs.PartNames.{names_along}
use Rattle.counterexample.specs.Counterexample.{origins_listed}
use Rattle.counterexample.specs.Styles.{style_of}
use Rattle.counterexample.specs.PartNames.{part_names_listed}
use Rattle.counterexample.proofs.LoopTexts.{taus_left}
use Rattle.counterexample.proofs.loops.push_loop.Given as goal

abbrev pub invariant-loop-place : goal.invariant-loop-place
invariant-loop-place g l = record {
  few : l.place ≤ l.told;
  text :
      string_bytes l.text ++ taus_left (style_of l.style) l.told (l.number + 1) l.back (map process_of l.looping.states.items) (origins_listed l.looping.origins.items) l.place (part_names_listed l.parts.items)
      ≡ string_bytes l.initial.text ++ few_taus (style_of l.style) l.told (l.number + 1) l.back (names_along [] (origins_listed l.before)) (map process_of l.looping.states.items) (origins_listed l.looping.origins.items);
}
