-- The move at the place is taken, and leads to the state whose menu is next.
use Rattle.std.proofs.Common.{◌≡◌, ◌<◌, ◌++◌, ◌∷◌, [], List, length, slice_get, Some, sym, ◌∙◌, ap, subst, arith, inl, inr, lit≤}
use Rattle.std.proofs.lemmas.List.{length-map}
use Rattle.theory_semantics.specs.Kinds.Scripts.{IsTermOf}
use Rattle.theory_walk.specs.Moves.{IsMenu, moves_in}
use Rattle.csp_term.specs.Script.{script_of}
use Rattle.csp_term.specs.Term.{process_of}
use Rattle.state_walk.specs.Walks.{menu_of, move_of, moves_listed}
use Rattle.state_walk.specs.declared.menu.Menu.{Menu}
use Rattle.state_walk.specs.declared.menu.Move.{Move}
use Rattle.state_walk.proofs.Keeping.{item_at, leads_closed, menu_longer, taken_longer, trail_longer}
use Rattle.state_walk.proofs.walk.Walk.go.Goals as goal

pub offset_bounds-moves-place : goal.offset_bounds-moves-place
offset_bounds-moves-place g c =
    let long = ap length c.moves.ensures in
    let same = length-map c.moves.result.now move_of in
    let inside = c.requires.inside in
    omega (arith, inside, long, same)

pub bounds-moves-place : goal.bounds-moves-place
bounds-moves-place g c =
    let long = ap length c.moves.ensures in
    let same = length-map c.moves.result.now move_of in
    let inside = c.requires.inside in
    omega (arith, inside, long, same)

pub menu_at-requires : goal.menu_at-requires
menu_at-requires g c =
    let w = c.args.self.now in
    let script = script_of w.script.now in
    let place = c.args.place in
    let m = c.index-moves-place.result in
    let long = ap length c.moves.ensures in
    let same = length-map c.moves.result.now move_of in
    let inside = c.requires.inside in
    let low : place < length c.moves.result.now = omega (arith, inside, long, same) in
    let at = item_at c.moves.result.now (moves_in (menu_of w.menu)) place m c.moves.ensures low c.index-moves-place.is in
    subst (λ (k : Move g.row.A.Denot). IsTermOf script (process_of k.target)) c.index-moves-place.is
    (leads_closed script (process_of w.start) w.taken.items w.taken.items (menu_of w.menu) place m c.requires.kept.taken c.requires.kept.menu at c.requires.kept.closed)

pub into_move-chosen-requires : goal.into_move-chosen-requires
into_move-chosen-requires g c =
    let inside = subst (λ (k : Menu g.row.A.Denot). c.args.place < length (moves_in (menu_of k))) (sym c.replace-offered.ensures.value) c.requires.inside in
    elim g.met.A.AllocHandle.small [ inl e ↦ rw (e.0, e.1) (search (lit≤, inside)) | inr e ↦ rw (e.0, e.1) (search (lit≤, inside)) ]

pub returns-clause-kept : goal.returns-clause-kept
returns-clause-kept g c =
    let w = c.args.self.now in
    let script = script_of w.script.now in
    let start = process_of w.start in
    let place = c.args.place in
    let taken = w.taken.items in
    let after = c.push.new.self.items in
    let chosen = c.into_move-chosen.result in
    let m = c.index-moves-place.result in
    let long = ap length c.moves.ensures in
    let same = length-map c.moves.result.now move_of in
    let inside = c.requires.inside in
    let low : place < length c.moves.result.now = omega (arith, inside, long, same) in
    let there = item_at c.moves.result.now (moves_in (menu_of w.menu)) place m c.moves.ensures low c.index-moves-place.is in
    let at : slice_get (moves_in (menu_of w.menu)) place ≡ Some (move_of chosen) =
    subst (λ (k : Menu g.row.A.Denot). slice_get (moves_in (menu_of k)) place ≡ Some (move_of chosen)) c.replace-offered.ensures.value c.into_move-chosen.ensures in
    let more : after ≡ taken ++ chosen ∷ [] = c.in-Ok.ensures.items ∙ ap (λ (ms : List (Move g.row.A.Denot)). ms ++ chosen ∷ []) c.reserve.ensures.items in
    let offered : IsMenu script (process_of m.target) (menu_of c.in_ok-menu.menu) =
    subst (λ (k : Move g.row.A.Denot). IsMenu script (process_of k.target) (menu_of c.in_ok-menu.menu)) (sym c.index-moves-place.is) c.in_ok-menu.ensures in
    let next : IsMenu script (process_of m.target) (menu_of c.replace-offered.new.dest) =
    subst (λ (k : Menu g.row.A.Denot). IsMenu script (process_of m.target) (menu_of k)) (sym c.replace-offered.ensures.after) offered in
    record {
      closed = c.requires.kept.closed;
      taken = taken_longer script start taken after (menu_of w.menu) place chosen c.requires.kept.taken c.requires.kept.menu at more;
      menu = menu_longer script start taken after (menu_of w.menu) place chosen c.requires.kept.taken c.requires.kept.menu at m (menu_of c.replace-offered.new.dest) more there next;
    }

pub returns-clause-gone : goal.returns-clause-gone
returns-clause-gone g c =
    let w = c.args.self.now in
    let script = script_of w.script.now in
    let place = c.args.place in
    let taken = w.taken.items in
    let after = c.push.new.self.items in
    let chosen = c.into_move-chosen.result in
    let at : slice_get (moves_in (menu_of w.menu)) place ≡ Some (move_of chosen) =
    subst (λ (k : Menu g.row.A.Denot). slice_get (moves_in (menu_of k)) place ≡ Some (move_of chosen)) c.replace-offered.ensures.value c.into_move-chosen.ensures in
    let more : after ≡ taken ++ chosen ∷ [] = c.in-Ok.ensures.items ∙ ap (λ (ms : List (Move g.row.A.Denot)). ms ++ chosen ∷ []) c.reserve.ensures.items in
    (move_of chosen, at, trail_longer script (process_of w.start) taken after (menu_of w.menu) place chosen c.requires.kept.taken c.requires.kept.menu at more)

pub moves-requires : goal.moves-requires
moves-requires g c = elim g.met.A.AllocHandle.small [ inl e ↦ rw (e.0, e.1) (search (lit≤)) | inr e ↦ rw (e.0, e.1) (search (lit≤)) ]

pub drop-menu-requires-room-T-Destruct : goal.drop-menu-requires-room-T-Destruct
drop-menu-requires-room-T-Destruct g c κs within = elim g.met.A.AllocHandle.small [ inl e ↦ rw (e.0, e.1) (search (lit≤)) | inr e ↦ rw (e.0, e.1) (search (lit≤)) ]
