-- The form tells what is offered.
use Rattle.std.proofs.Common.{sym, ◌∙◌, ap, subst, inl, inr, lit≤}
use Rattle.theory_walk.specs.Moves.{AreTold}
use Rattle.theory_walk.proofs.Offered.{moves_of_fired}
use Rattle.csp_term.specs.Script.{script_of}
use Rattle.csp_term.specs.Term.{process_of}
use Rattle.csp_fire.specs.Form.{form_of}
use Rattle.csp_replay.proofs.Fired.{form_at}
use Rattle.state_walk.specs.Walks.{moves_listed}
use Rattle.state_walk.proofs.menu.menu_at.Goals as goal

pub returns-in-Steps : goal.returns-in-Steps
returns-in-Steps g c =
    let script = script_of c.args.script.now in
    let t = process_of c.args.term.now in
    let fired = c.in_ok-fire.ensures in
    let form = form_at c.in_ok-fire.field-0 script t _ fired.script fired.term (ap form_of (sym c.in-Steps.is) ∙ c.into_form.ensures) fired.exact in
    let moves = moves_listed c.in_ok-moves-in-Steps.moves.items in
    moves_of_fired script t moves _ _ form c.in_ok-moves-in-Steps.ensures.steps (subst (λ s. AreTold s t moves) c.parts.ensures.value c.in_ok-moves-in-Steps.ensures.told)

pub moves_by-requires : goal.moves_by-requires
moves_by-requires g c = elim g.met.A.AllocHandle.small [ inl e ↦ rw (e.0, e.1) (search (lit≤)) | inr e ↦ rw (e.0, e.1) (search (lit≤)) ]

pub drop-into_form-requires-room-T-Destruct : goal.drop-into_form-requires-room-T-Destruct
drop-into_form-requires-room-T-Destruct g c κs within = elim g.met.A.AllocHandle.small [ inl e ↦ rw (e.0, e.1) (search (lit≤)) | inr e ↦ rw (e.0, e.1) (search (lit≤)) ]

pub drop-requires-room-T-Destruct : goal.drop-requires-room-T-Destruct
drop-requires-room-T-Destruct g c κs within = elim g.met.A.AllocHandle.small [ inl e ↦ rw (e.0, e.1) (search (lit≤)) | inr e ↦ rw (e.0, e.1) (search (lit≤)) ]
