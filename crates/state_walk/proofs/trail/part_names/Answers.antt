-- One move after the other.
use Rattle.std.proofs.Common.{◌≡◌, ◌∷◌, ◌+◌, suc, List, drop, map, sym, ◌∙◌, ap, add-one, drop-cons, inl, inr, lit≤}
use Rattle.std.proofs.lemmas.List.{drop_all}
use Rattle.theory_explanation.specs.PartNames as names
use Rattle.theory_explanation.specs.PartNames.{names_along}
use Rattle.counterexample.specs.PartNames.{part_names_listed}
use Rattle.counterexample.specs.declared.part_names.PartName.{PartName}
use Rattle.state_walk.specs.Walks.{origin_in}
use Rattle.state_walk.specs.declared.menu.Move.{Move}
use Rattle.state_walk.proofs.trail.part_names.Goals as goal

pub loop-one-init : goal.loop-one-init
loop-one-init g c = ap (λ (ps : List (PartName g.row.A.Denot)). names_along (part_names_listed ps) (map origin_in c.args.taken.now)) c.new-parts.ensures.items

pub loop-one-preserved : goal.loop-one-preserved
loop-one-preserved g c =
    let taken = c.args.taken.now in
    let i = c.loop-one.one-index in
    let parts = part_names_listed c.loop-one.parts.items in
    let rest = map origin_in (drop (i + 1) taken) in
    let first : drop i taken ≡ c.one-item.result ∷ drop (i + 1) taken =
    rw add-one (drop-cons taken i c.one-item.result c.loop-one-test.true ∙ ap (λ o. o ∷ drop (suc i) taken) (sym c.one-item.is)) in
    ap (λ (ps : List names.PartName). names_along ps rest) c.in_ok-put_unfolded.ensures
    ∙ sym (ap (λ (ms : List (Move g.row.A.Denot)). names_along parts (map origin_in ms)) first) ∙ c.loop-one.invariant

pub returns : goal.returns
returns g c =
    let parts = part_names_listed c.loop-one.parts.items in
    sym (ap (λ (ms : List (Move g.row.A.Denot)). names_along parts (map origin_in ms)) (drop_all c.loop-one.one-index c.args.taken.now c.loop-one-test.false)) ∙ c.loop-one.invariant

pub put_unfolded-requires : goal.put_unfolded-requires
put_unfolded-requires g c = elim g.met.A.AllocHandle.small [ inl e ↦ rw (e.0, e.1) (search (lit≤)) | inr e ↦ rw (e.0, e.1) (search (lit≤)) ]
