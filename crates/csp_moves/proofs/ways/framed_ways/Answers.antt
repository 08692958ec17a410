-- By the events that were made for the operator.
use Rattle.std.proofs.Common.{◌≡◌, IfOk, List, map, inl, inr, lit<, sym, subst, Option, Some}
use Rattle.theory_syntax.specs.Process.{Process}
use Rattle.csp_value.specs.Action.{event_of}
use Rattle.csp_value.specs.declared.action.Event.{Event}
use Rattle.csp_events.specs.Events.{event_set_of, renaming_pairs_of}
use Rattle.csp_term.specs.Script.{script_of_parts}
use Rattle.csp_term.specs.Term.{process_of}
use Rattle.csp_moves.specs.Bodies.{AreHiddenEvents, AreRenamedEvents}
use Rattle.csp_moves.specs.declared.frame.Frame.{Frame}
use Rattle.csp_moves.specs.Frames.{OneSided, frame_of, framed}
use Rattle.csp_moves.specs.Made.{AreEventsOf}
use Rattle.csp_moves.specs.Way.{AreFoundIn, lent_action}
use Rattle.csp_moves.proofs.Apart.{framed_again}
use Rattle.csp_moves.proofs.ways.framed_ways.Goals as goal

pub returns-in-Hiding : goal.returns-in-Hiding
returns-in-Hiding g c =
    let s = script_of_parts c.args.script.now in
    let x = lent_action c.args.action in
    let t = process_of c.args.target.now in
    let w = c.in-Some.found in
    let Q : Frame g.row.A.Denot → Type 0 = λ f. process_of c.args.term.now ≡ framed (frame_of f) (process_of w.body.now) in
    let is = subst Q c.in-Hiding.is (framed_again (process_of c.args.term.now) (frame_of w.frame) (process_of w.body.now) c.in-Some.ensures) in
    let P : Process → Type 0 = λ p. IfOk c.hiding_ways.result (AreFoundIn s p x t) in
    subst P (sym is) c.hiding_ways.ensures

pub returns-in-Renaming : goal.returns-in-Renaming
returns-in-Renaming g c =
    let s = script_of_parts c.args.script.now in
    let x = lent_action c.args.action in
    let t = process_of c.args.target.now in
    let w = c.in-Some.found in
    let Q : Frame g.row.A.Denot → Type 0 = λ f. process_of c.args.term.now ≡ framed (frame_of f) (process_of w.body.now) in
    let is = subst Q c.in-Renaming.is (framed_again (process_of c.args.term.now) (frame_of w.frame) (process_of w.body.now) c.in-Some.ensures) in
    let D : Option (OneSided × Process) → Type 0 = λ o. AreEventsOf s o x t (map event_of c.args.made.now.events.items) in
    let E : Frame g.row.A.Denot → Type 0 = λ f. D (Some (frame_of f, process_of w.body.now)) in
    let F : List (Event g.row.A.Denot) → Type 0 = λ es. AreRenamedEvents s (process_of w.body.now) (renaming_pairs_of c.in-Renaming.pairs.now.items) x t (map event_of es) in
    let P : Process → Type 0 = λ p. IfOk c.renaming_ways.result (AreFoundIn s p x t) in
    subst P (sym is) (c.renaming_ways.ensures s (subst F (sym c.deref-in-Renaming.ensures.value) (subst E c.in-Renaming.is (subst D (sym c.in-Some.ensures) c.requires.made.events))))

pub hiding_ways-requires : goal.hiding_ways-requires
hiding_ways-requires g c =
    let s = script_of_parts c.args.script.now in
    let x = lent_action c.args.action in
    let t = process_of c.args.target.now in
    let w = c.in-Some.found in
    let D : Option (OneSided × Process) → Type 0 = λ o. AreEventsOf s o x t (map event_of c.args.made.now.events.items) in
    let E : Frame g.row.A.Denot → Type 0 = λ f. D (Some (frame_of f, process_of w.body.now)) in
    let F : List (Event g.row.A.Denot) → Type 0 = λ es. AreHiddenEvents s (process_of w.body.now) (event_set_of c.in-Hiding.events.now) x t (map event_of es) in
    let given = subst F (sym c.deref.ensures.value) (subst E c.in-Hiding.is (subst D (sym c.in-Some.ensures) c.requires.made.events)) in
    elim g.met.A.AllocHandle.small [ inl e ↦ rw (e.0, e.1) (lit< tt, given) | inr e ↦ rw (e.0, e.1) (lit< tt, given) ]

pub renaming_ways-requires : goal.renaming_ways-requires
renaming_ways-requires g c = elim g.met.A.AllocHandle.small [ inl e ↦ rw (e.0, e.1) (lit< tt) | inr e ↦ rw (e.0, e.1) (lit< tt) ]
