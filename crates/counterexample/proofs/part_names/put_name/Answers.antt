-- The name comes behind those that are kept.
use Rattle.std.proofs.Common.{List, [], ◌∷◌, ◌++◌, filter, map, not, ◌∙◌, ap}
use Rattle.std.proofs.lemmas.List.{map-append}
use Rattle.theory_explanation.specs.PartNames as pure
use Rattle.theory_explanation.specs.PartNames.{is_at}
use Rattle.csp_moves.specs.Passage.{side_of}
use Rattle.csp_moves.specs.declared.passage.Side.{Side}
use Rattle.counterexample.specs.PartNames.{part_name_of, part_names_listed}
use Rattle.counterexample.specs.declared.part_names.PartName.{PartName}
use Rattle.counterexample.proofs.part_names.put_name.Goals as goal

pub returns : goal.returns
returns g c =
    let old = part_names_listed c.args.parts.now.items in
    let name = part_name_of c.args.name in
    let kept = c.take_out.ensures ∙ ap (λ (w : List Side). filter (λ d. not (is_at (map side_of w) d)) old) c.deref.ensures.value in
    ap (λ (ds : List (PartName g.row.A.Denot)). part_names_listed ds) c.in_ok-push.ensures.items ∙ map-append part_name_of c.take_out.new.parts.items (c.args.name ∷ [])
    ∙ ap (λ (ds : List pure.PartName). ds ++ name ∷ []) kept
