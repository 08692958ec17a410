use Rattle.std.proofs.Common.{◌≡◌, ◌<◌, ◌∙◌, length, map, set, ap, ap₂, arith}
use Rattle.std.specs.Prelude.{Option, option_map, Some}
use Rattle.std.specs.Vec.{with_items}
use Rattle.std.proofs.lemmas.List.{map-set, length-map, with_items_is}
use Rattle.theory_checking.specs.Inference.Chain.{in_place_of, with_ends}
use Rattle.csp_inference.specs.declared.chain.Chain.{Chain}
use Rattle.csp_inference.specs.Chain.{chain_of, end_of, over_all}
use Rattle.csp_inference.specs.State.{chains_in, chains_of, state_in}
use Rattle.csp_inference.proofs.Uniting.{bound_known}
use Rattle.csp_inference.proofs.state.State.bind.Goals as goal

pub returns : goal.returns
returns g c =
    let n = c.args.number.0 in
    let chain = over_all c.args.layers.now (end_of c.args.end) in
    let chains = c.make_room.new.self.chains in
    let slots = c.go_on_all.new.slots in
    let bound : Option (Chain g.row.A.Denot) = Some (record { layers = c.in_ok-layers.layers; end = c.args.end }) in
    let within : n < length (chains_of c.make_room.new.self) = simp length-map c.in_ok-make_room.ensures.place in
    let long : length slots ≡ chains.len = omega arith in
    let kept = with_items_is chains slots long in
    bound_known (state_in c.args.self.now) (chains_of c.make_room.new.self) (chains_in (set (with_items chains slots).items n bound)) n chain within c.make_room.ensures.known
    (ap (λ xs. chains_in (set xs n bound)) kept ∙ map-set (option_map chain_of) slots n bound
    ∙ ap₂ (λ xs x. set xs n x)
    (c.in_ok-go_on_all.ensures ∙ ap (λ xs. map (option_map (with_ends (in_place_of n chain))) (chains_in xs)) c.deref_mut.ensures.value)
    (ap (λ ls. Some (over_all ls (end_of c.args.end))) c.in_ok-layers.ensures.items))
