-- Nothing is taken yet.
use Rattle.std.proofs.Common.{[], sym, subst, inl, inr, lit≤}
use Rattle.theory_semantics.specs.Kinds.Scripts.{IsTermOf}
use Rattle.theory_walk.specs.Moves.{IsMenu}
use Rattle.csp_term.specs.Script.{script_of}
use Rattle.csp_term.specs.Term.{process_of}
use Rattle.state_walk.specs.Walks.{menu_of}
use Rattle.state_walk.proofs.Keeping.{menu_begun, taken_same}
use Rattle.state_walk.proofs.walk.Walk.new.Goals as goal

pub drop-menu-requires-room-T-Destruct : goal.drop-menu-requires-room-T-Destruct
drop-menu-requires-room-T-Destruct g c κs within = elim g.met.A.AllocHandle.small [ inl e ↦ rw (e.0, e.1) (search (lit≤)) | inr e ↦ rw (e.0, e.1) (search (lit≤)) ]

pub returns-clause-kept : goal.returns-clause-kept
returns-clause-kept g c =
    let script = script_of c.args.script.now in
    let start = process_of c.in_ok-start.start in
    let menu = menu_of c.in_ok-menu.menu in
    let taken = c.new-taken.result.items in
    record {
      closed = subst (IsTermOf script) (sym c.in_ok-start.ensures) c.requires.closed;
      taken = taken_same script start taken [] c.new-taken.ensures.items tt;
      menu = menu_begun script start menu taken c.new-taken.ensures.items (subst (λ t. IsMenu script t menu) (sym c.in_ok-start.ensures) c.in_ok-menu.ensures);
    }
