-- One origin after the other.
use Rattle.std.proofs.Common.{◌≡◌, ◌∷◌, ◌+◌, suc, List, Option, drop, sym, ◌∙◌, ap, add-one, drop-cons}
use Rattle.std.proofs.lemmas.List.{drop_all}
use Rattle.theory_explanation.specs.PartNames as names
use Rattle.theory_explanation.specs.PartNames.{names_along, part_names_behind}
use Rattle.csp_moves.specs.declared.origin.Origin.{Origin}
use Rattle.counterexample.specs.Counterexample.{origins_listed}
use Rattle.counterexample.specs.PartNames.{part_names_listed}
use Rattle.counterexample.specs.declared.part_names.PartName.{PartName}
use Rattle.counterexample.proofs.part_names.names_along.Goals as goal

pub loop-origin-init : goal.loop-origin-init
loop-origin-init g c = ap (λ (ps : List (PartName g.row.A.Denot)). names_along (part_names_listed ps) (origins_listed c.args.origins.now)) c.new-parts.ensures.items

pub loop-origin-preserved : goal.loop-origin-preserved
loop-origin-preserved g c =
    let origins = c.args.origins.now in
    let i = c.loop-origin.origin-index in
    let parts = part_names_listed c.loop-origin.parts.items in
    let rest = origins_listed (drop (i + 1) origins) in
    let first : drop i origins ≡ c.origin-item.result ∷ drop (i + 1) origins =
    rw add-one (drop-cons origins i c.origin-item.result c.loop-origin-test.true ∙ ap (λ o. o ∷ drop (suc i) origins) (sym c.origin-item.is)) in
    ap (λ (ps : List names.PartName). names_along ps rest) c.in_ok-put_unfolded.ensures
    ∙ sym (ap (λ (os : List (Option (Origin g.row.A.Denot))). names_along parts (origins_listed os)) first) ∙ c.loop-origin.invariant

pub returns : goal.returns
returns g c =
    let parts = part_names_listed c.loop-origin.parts.items in
    sym (ap (λ (os : List (Option (Origin g.row.A.Denot))). names_along parts (origins_listed os)) (drop_all c.loop-origin.origin-index c.args.origins.now c.loop-origin-test.false)) ∙ c.loop-origin.invariant
