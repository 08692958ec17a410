-- The end of the body is that of the whole in any script.
use Rattle.std.proofs.Common.{IfOk, sym, subst}
use Rattle.theory_syntax.specs.Process.{Hiding}
use Rattle.csp_events.specs.Events.{event_set_of}
use Rattle.csp_term.specs.Script.{script_of_parts}
use Rattle.csp_term.specs.Term.{process_of}
use Rattle.csp_moves.specs.declared.way.LentAction.{LentAction}
use Rattle.csp_moves.specs.Way.{AreFoundIn, lent_action}
use Rattle.csp_moves.proofs.Found.{if_so}
use Rattle.csp_moves.proofs.hiding.hiding_ways.Goals as goal

pub returns-in-Tick : goal.returns-in-Tick
returns-in-Tick g c =
    let s = script_of_parts c.args.script.now in
    let p = Hiding (process_of c.args.process.body.now) (event_set_of c.args.process.events.now) in
    let t = process_of c.args.target.now in
    let P : LentAction g.row.A.Denot → Type 0 = λ a. IfOk c.by_tick.result (AreFoundIn s p (lent_action a) t) in
    subst P (sym c.in-Tick.is) (if_so c.by_tick.result c.by_tick.ensures (λ ways f. f s))
