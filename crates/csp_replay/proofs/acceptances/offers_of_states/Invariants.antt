-- What the first states offer.
use Rattle.std.proofs.Common.{[], map}
use Rattle.theory_semantics.specs.Meaning.Offers.{IsAcceptance}
use Rattle.theory_runs.specs.Gathering.{Gathers}
use Rattle.theory_runs.proofs.Gathering.{IsOfFirst}
use Rattle.csp_term.specs.Script.{script_of}
use Rattle.csp_term.specs.Term.{process_of}
use Rattle.csp_replay.specs.Offers.{offers_listed}
use Rattle.csp_replay.proofs.acceptances.offers_of_states.Given as goal

abbrev pub invariant-loop-state : goal.invariant-loop-state
invariant-loop-state g l = Gathers [] (IsOfFirst (IsAcceptance (script_of l.script)) (map process_of l.states) l.state-index) (offers_listed l.all.items)
