-- What is kept is what stands at another way.
use Rattle.std.proofs.Common.{Bool, not, map, ◌∙◌, ap}
use Rattle.std.proofs.lemmas.Fn.{filter_same}
use Rattle.theory_explanation.specs.PartNames as pure
use Rattle.theory_explanation.specs.PartNames.{is_at}
use Rattle.csp_moves.specs.Passage.{side_of}
use Rattle.counterexample.specs.PartNames.{part_name_of, part_names_listed}
use Rattle.counterexample.proofs.Naming.{map_filter}
use Rattle.counterexample.proofs.part_names.take_out.Goals as goal

pub returns : goal.returns
returns g c =
    let way = map side_of c.args.way.now in
    let parts = c.args.parts.now.items in
    let other : pure.PartName → Bool = λ d. not (is_at way d) in
    let kept =
    filter_same _ (λ p. not (is_at way (part_name_of p))) _ (λ x b f' k. (k.called.met.1 ∙ ap (λ p. not (is_at way (part_name_of p))) k.shows, λ j. record { 0 = k.called.met.0 j })) parts c.retain.new.self.items c.retain.ensures.filtered in
    ap part_names_listed kept ∙ map_filter other part_name_of parts
