-- The least of all acceptances, sorted.
use Rattle.std.proofs.Common.{[], List, Vec, map, subst}
use Rattle.theory_runs.specs.Acceptances.{IsLeastAmong}
use Rattle.theory_runs.specs.Gathering.{Gathers}
use Rattle.theory_runs.proofs.Acceptances.{least_told}
use Rattle.csp_value.specs.declared.action.Action.{Action}
use Rattle.csp_term.specs.Script.{script_of}
use Rattle.csp_term.specs.Term.{process_of}
use Rattle.csp_replay.specs.Offers.{offers_listed}
use Rattle.csp_replay.proofs.acceptances.least_acceptances_of.Goals as goal

pub returns : goal.returns
returns g c =
    let all = c.in_ok-all.all.items in
    let least = c.in_ok-least.least.items in
    let P : List (Vec (Action g.row.A.Denot) g.row.A.Denot) → Type 0 = λ os. Gathers [] (IsLeastAmong (offers_listed os)) (offers_listed least) in
    least_told (script_of c.args.script.now) (map process_of c.args.states.now) (offers_listed all) (offers_listed least) (offers_listed c.sorted_once.result.items) c.in_ok-all.ensures (subst P c.deref.ensures.value c.in_ok-least.ensures)
    c.sorted_once.ensures.same c.sorted_once.ensures.rising
