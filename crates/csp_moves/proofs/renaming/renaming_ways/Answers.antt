-- An event comes by those that are renamed to it.
use Rattle.std.proofs.Common.{IfOk, map, sym, subst}
use Rattle.theory_syntax.specs.Process.{Renaming}
use Rattle.csp_value.specs.Action.{event_of}
use Rattle.csp_events.specs.Events.{renaming_pairs_of}
use Rattle.csp_term.specs.Term.{process_of}
use Rattle.csp_moves.specs.Bodies.{AreRenamedEvents}
use Rattle.csp_moves.specs.declared.way.LentAction.{LentAction}
use Rattle.csp_moves.specs.Way.{AreFoundIn, lent_action}
use Rattle.csp_moves.proofs.renaming.renaming_ways.Goals as goal

pub returns-in-Event : goal.returns-in-Event
returns-in-Event g c = λ s are.
    let p = process_of c.args.process.body.now in
    let rs = renaming_pairs_of c.args.process.pairs.now.items in
    let t = process_of c.args.target.now in
    let es = map event_of c.args.events.now in
    let P : LentAction g.row.A.Denot → Type 0 = λ a. AreRenamedEvents s p rs (lent_action a) t es → IfOk c.by_event.result (AreFoundIn s (Renaming p rs) (lent_action a) t) in
    subst P (sym c.in-Event.is) (c.by_event.ensures s) are
