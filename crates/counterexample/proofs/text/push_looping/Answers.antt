-- Where there is no loop, none is told.
use Rattle.std.proofs.Common.{[], Option, ◌++◌, option_map, sym, ◌∙◌, ap, append-nil}
use Rattle.std.specs.String.{string_bytes}
use Rattle.theory_explanation.specs.Loops.{loop_text}
use Rattle.theory_explanation.specs.PartNames.{names_along}
use Rattle.counterexample.specs.Counterexample.{loop_of, origins_listed}
use Rattle.counterexample.specs.Styles.{style_of}
use Rattle.counterexample.specs.declared.looping.Looping.{Looping}
use Rattle.counterexample.proofs.text.push_looping.Goals as goal

pub returns-in-None : goal.returns-in-None
returns-in-None g c =
    let start = string_bytes c.args.text.now in
    let names = names_along [] (origins_listed c.args.origins.now) in
    let told = loop_text (style_of c.args.style.now) names c.args.number in
    sym (append-nil start) ∙ ap (λ (l : Option (Looping g.row.A.Denot)). start ++ told (option_map loop_of l)) (sym c.in-None.is)
