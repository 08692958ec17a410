-- The item is read.
use Rattle.std.proofs.Common.{◌≡◌, ◌<◌, length, slice_get, Some, refl, sym, subst, arith}
use Rattle.std.proofs.lemmas.List.{length-map}
use Rattle.theory_walk.specs.Moves.{moves_in}
use Rattle.state_walk.specs.Walks.{menu_of, move_of, moves_listed}
use Rattle.state_walk.specs.declared.menu.Menu.{Menu}
use Rattle.state_walk.proofs.Keeping.{item_at}
use Rattle.state_walk.proofs.menu.Menu.into_move.Goals as goal

pub swap_remove-requires : goal.swap_remove-requires
swap_remove-requires g c =
    let inside = subst (λ (m : Menu g.row.A.Denot). c.args.place < length (moves_in (menu_of m))) c.in-Offers.is c.requires in
    let long = length-map c.in-Offers.moves.items move_of in
    let ok = c.in-Offers.moves.ok.0 in
    omega (arith, inside, long, ok)

pub returns : goal.returns
returns g c =
    let inside = subst (λ (m : Menu g.row.A.Denot). c.args.place < length (moves_in (menu_of m))) c.in-Offers.is c.requires in
    let long = length-map c.in-Offers.moves.items move_of in
    let low : c.args.place < length c.in-Offers.moves.items = omega (arith, inside, long) in
    subst (λ (m : Menu g.row.A.Denot). slice_get (moves_in (menu_of m)) c.args.place ≡ Some (move_of c.swap_remove.result)) (sym c.in-Offers.is)
    (item_at c.in-Offers.moves.items (moves_listed c.in-Offers.moves.items) c.args.place c.swap_remove.result refl low c.swap_remove.ensures.value)
