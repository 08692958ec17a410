-- By the operator of the process, if it has one.
use Rattle.std.proofs.Common.{IfOk, map, sym, subst, Option, Some}
use Rattle.theory_syntax.specs.Process.{Process}
use Rattle.csp_value.specs.Action.{event_of}
use Rattle.csp_term.specs.Script.{script_of_parts}
use Rattle.csp_term.specs.Term.{process_of}
use Rattle.csp_moves.specs.declared.frame.Frame.{Frame}
use Rattle.csp_moves.specs.Frames.{OneSided, frame_of}
use Rattle.csp_moves.specs.Made.{AreEventsOf}
use Rattle.csp_moves.specs.Way.{lent_action}
use Rattle.csp_moves.proofs.made.events_of_step.Goals as goal

pub returns-in_default : goal.returns-in_default
returns-in_default g c =
    let s = script_of_parts c.args.script.now in
    let x = lent_action c.args.action in
    let t = process_of c.args.target.now in
    let P : Option (OneSided × Process) → Type 0 = λ o. AreEventsOf s o x t (map event_of c.new.result.items) in subst P c.in_default.ensures tt

pub returns-in-Hiding : goal.returns-in-Hiding
returns-in-Hiding g c =
    let s = script_of_parts c.args.script.now in
    let x = lent_action c.args.action in
    let t = process_of c.args.target.now in
    let P : Option (OneSided × Process) → Type 0 = λ o. IfOk c.hidden_events.result (λ es. AreEventsOf s o x t (map event_of es.items)) in
    let Q : Frame g.row.A.Denot → Type 0 = λ f. P (Some (frame_of f, process_of c.in-Some.found.body.now)) in
    subst P c.in-Some.ensures (subst Q (sym c.in-Hiding.is) c.hidden_events.ensures)

pub returns-in-Renaming : goal.returns-in-Renaming
returns-in-Renaming g c =
    let s = script_of_parts c.args.script.now in
    let x = lent_action c.args.action in
    let t = process_of c.args.target.now in
    let P : Option (OneSided × Process) → Type 0 = λ o. IfOk c.renamed_events.result (λ es. AreEventsOf s o x t (map event_of es.items)) in
    let Q : Frame g.row.A.Denot → Type 0 = λ f. P (Some (frame_of f, process_of c.in-Some.found.body.now)) in
    subst P c.in-Some.ensures (subst Q (sym c.in-Renaming.is) c.renamed_events.ensures)
