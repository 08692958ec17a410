-- The walk is where the last move was taken.
use Rattle.std.proofs.Common.{◌≡◌, List, length, refl, sym, ◌∙◌, subst, arith, inl, inr, lit≤}
use Rattle.theory_semantics.specs.Kinds.Scripts.{IsTermOf}
use Rattle.csp_term.specs.Script.{script_of}
use Rattle.csp_term.specs.Term.{process_of}
use Rattle.state_walk.specs.Walks.{menu_of, move_of, moves_listed, place_of, trail_of}
use Rattle.state_walk.specs.declared.menu.Move.{Move}
use Rattle.state_walk.proofs.Keeping.{closed_before, follows_back, follows_start, left_before, listed_before, menu_behind, taken_before, taken_same, trail_back}
use Rattle.state_walk.proofs.walk.Walk.back.Goals as goal

pub returns-in_default-clause-follows : goal.returns-in_default-clause-follows
returns-in_default-clause-follows g c =
    let w = c.args.self.now in
    let none = subst (λ (ms : List (Move g.row.A.Denot)). length ms ≡ 0) c.deref.ensures.value c.in_default.ensures.cases in
    follows_start w.taken.items (trail_of w) (place_of w) _ none refl refl

pub menu_at-requires : goal.menu_at-requires
menu_at-requires g c =
    let w = c.args.self.now in
    let script = script_of w.script.now in
    let is = sym c.deref.ensures.value ∙ c.in-Some.ensures.cases.0 in
    subst (IsTermOf script) (sym c.behind.ensures) (closed_before w.taken.items c.in-Some.before.now c.in-Some.field-0-0.now is script (process_of w.start) c.requires.kept.closed c.requires.kept.taken)

pub returns-clause-kept : goal.returns-clause-kept
returns-clause-kept g c =
    let w = c.args.self.now in
    let script = script_of w.script.now in
    let start = process_of w.start in
    let items = w.taken.items in
    let before = c.in-Some.before.now in
    let last = c.in-Some.field-0-0.now in
    let after = c.pop.new.self.items in
    let is = sym c.deref.ensures.value ∙ c.in-Some.ensures.cases.0 in
    let ok = w.taken.ok.0 in
    let left = left_before items before last is after w.taken.len (omega (arith, ok)) c.pop.ensures.rest in
    record {
      closed = c.requires.kept.closed;
      taken = taken_same script start after before left (taken_before items before last is script start c.requires.kept.taken);
      menu = menu_behind script start (menu_of c.in_ok-menu.menu) after before (process_of c.behind.result.now) left c.behind.ensures c.in_ok-menu.ensures;
    }

pub returns-clause-follows : goal.returns-clause-follows
returns-clause-follows g c =
    let w = c.args.self.now in
    let items = w.taken.items in
    let before = c.in-Some.before.now in
    let last = c.in-Some.field-0-0.now in
    let after = c.pop.new.self.items in
    let is = sym c.deref.ensures.value ∙ c.in-Some.ensures.cases.0 in
    let ok = w.taken.ok.0 in
    let left = left_before items before last is after w.taken.len (omega (arith, ok)) c.pop.ensures.rest in
    follows_back (trail_of w) (moves_listed before) (move_of last) (place_of w) _ (listed_before items before last is) (trail_back (process_of w.start) items before after last is left)

pub behind-requires : goal.behind-requires
behind-requires g c = elim g.met.A.AllocHandle.small [ inl e ↦ rw (e.0, e.1) (search (lit≤)) | inr e ↦ rw (e.0, e.1) (search (lit≤)) ]

pub array_drop-pop-requires : goal.array_drop-pop-requires
array_drop-pop-requires g c = elim g.met.A.AllocHandle.small [ inl e ↦ rw (e.0, e.1) (search (lit≤)) | inr e ↦ rw (e.0, e.1) (search (lit≤)) ]

pub array_drop-pop-requires-in_ok-menu-2 : goal.array_drop-pop-requires-in_ok-menu-2
array_drop-pop-requires-in_ok-menu-2 g c = elim g.met.A.AllocHandle.small [ inl e ↦ rw (e.0, e.1) (search (lit≤)) | inr e ↦ rw (e.0, e.1) (search (lit≤)) ]

pub array_drop-requires : goal.array_drop-requires
array_drop-requires g c = elim g.met.A.AllocHandle.small [ inl e ↦ rw (e.0, e.1) (search (lit≤)) | inr e ↦ rw (e.0, e.1) (search (lit≤)) ]

pub array_drop-requires-in_ok-menu-2 : goal.array_drop-requires-in_ok-menu-2
array_drop-requires-in_ok-menu-2 g c = elim g.met.A.AllocHandle.small [ inl e ↦ rw (e.0, e.1) (search (lit≤)) | inr e ↦ rw (e.0, e.1) (search (lit≤)) ]

pub array_drop-requires-in_ok-menu-3 : goal.array_drop-requires-in_ok-menu-3
array_drop-requires-in_ok-menu-3 g c = elim g.met.A.AllocHandle.small [ inl e ↦ rw (e.0, e.1) (search (lit≤)) | inr e ↦ rw (e.0, e.1) (search (lit≤)) ]

pub drop-requires-in_ok-menu-6-room-T-Destruct : goal.drop-requires-in_ok-menu-6-room-T-Destruct
drop-requires-in_ok-menu-6-room-T-Destruct g c κs within = elim g.met.A.AllocHandle.small [ inl e ↦ rw (e.0, e.1) (search (lit≤)) | inr e ↦ rw (e.0, e.1) (search (lit≤)) ]

pub drop-requires-in_ok-menu-7-room-T-Destruct : goal.drop-requires-in_ok-menu-7-room-T-Destruct
drop-requires-in_ok-menu-7-room-T-Destruct g c κs within = elim g.met.A.AllocHandle.small [ inl e ↦ rw (e.0, e.1) (search (lit≤)) | inr e ↦ rw (e.0, e.1) (search (lit≤)) ]

pub drop-requires-in_ok-menu-7-2-room-T-Destruct : goal.drop-requires-in_ok-menu-7-2-room-T-Destruct
drop-requires-in_ok-menu-7-2-room-T-Destruct g c κs within = elim g.met.A.AllocHandle.small [ inl e ↦ rw (e.0, e.1) (search (lit≤)) | inr e ↦ rw (e.0, e.1) (search (lit≤)) ]

pub drop-self-requires-room-T-Destruct : goal.drop-self-requires-room-T-Destruct
drop-self-requires-room-T-Destruct g c κs within = elim g.met.A.AllocHandle.small [ inl e ↦ rw (e.0, e.1) (search (lit≤)) | inr e ↦ rw (e.0, e.1) (search (lit≤)) ]
