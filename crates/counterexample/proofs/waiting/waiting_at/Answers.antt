-- The parts of the whole, from no way on.
use Rattle.std.proofs.Common.{IfOk, List, map, ◌∙◌, ap, sym, subst}
use Rattle.theory_origins.specs.Parts.{Placed, placed_parts}
use Rattle.theory_explanation.specs.Counterexamples.{AreWaiting, AreWaitingFor}
use Rattle.csp_term.specs.Script.{script_of}
use Rattle.csp_term.specs.Term.{process_of}
use Rattle.verdict.specs.Outcome.{evidence_of}
use Rattle.verdict.specs.declared.shown.Evidence.{Evidence}
use Rattle.counterexample.specs.Counterexample.{waiting_of}
use Rattle.counterexample.proofs.WaitingBehind.{placed_no_way}
use Rattle.counterexample.proofs.waiting.waiting_at.Goals as goal

pub returns-in-Offers : goal.returns-in-Offers
returns-in-Offers g c =
    let script = script_of c.args.script.now in
    let t = process_of c.args.state.now in
    let W : List Placed → Type 0 = λ ds. IfOk c.parts_in.result (λ ws. AreWaiting script ds (map waiting_of ws.items)) in
    let E : Evidence g.row.A.Denot → Type 0 = λ e. IfOk c.parts_in.result (λ ws. AreWaitingFor script (evidence_of e) t (map waiting_of ws.items)) in
    subst E (sym c.in-Offers.is) (subst W (placed_no_way (placed_parts t)) c.parts_in.ensures)

pub returns-in-Deadlock : goal.returns-in-Deadlock
returns-in-Deadlock g c =
    let script = script_of c.args.script.now in
    let t = process_of c.args.state.now in
    let W : List Placed → Type 0 = λ ds. IfOk c.parts_in-in-Deadlock.result (λ ws. AreWaiting script ds (map waiting_of ws.items)) in
    let E : Evidence g.row.A.Denot → Type 0 = λ e. IfOk c.parts_in-in-Deadlock.result (λ ws. AreWaitingFor script (evidence_of e) t (map waiting_of ws.items)) in
    subst E (sym c.in-Deadlock.is) (subst W (placed_no_way (placed_parts t)) c.parts_in-in-Deadlock.ensures)
