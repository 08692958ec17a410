-- An event of the first process comes so in any script.
use Rattle.std.proofs.Common.{IfOk, sym, subst, inl, inr, lit<}
use Rattle.theory_syntax.specs.Process.{Sequential}
use Rattle.csp_term.specs.Script.{script_of_parts}
use Rattle.csp_term.specs.Term.{process_of}
use Rattle.csp_moves.specs.declared.way.LentAction.{LentAction}
use Rattle.csp_moves.specs.Way.{AreFoundIn, lent_action}
use Rattle.csp_moves.proofs.sequential.sequential_ways.Goals as goal

pub by_event-requires : goal.by_event-requires
by_event-requires g c = elim g.met.A.AllocHandle.small [ inl e ↦ rw (e.0, e.1) (lit< tt) | inr e ↦ rw (e.0, e.1) (lit< tt) ]

pub returns-in-Event : goal.returns-in-Event
returns-in-Event g c =
    let s = script_of_parts c.args.script.now in
    let p = Sequential (process_of c.args.left.now) (process_of c.args.right.now) in
    let t = process_of c.args.target.now in
    let P : LentAction g.row.A.Denot → Type 0 = λ a. IfOk c.by_event.result (AreFoundIn s p (lent_action a) t) in
    subst P (sym c.in-Event.is) (c.by_event.ensures s)
