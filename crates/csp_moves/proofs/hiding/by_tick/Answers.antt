-- The law of the operator.
use Rattle.theory_syntax.specs.Value.{Tick}
use Rattle.theory_syntax.specs.Process.{Hiding}
use Rattle.csp_events.specs.Events.{event_set_of}
use Rattle.csp_term.specs.Term.{process_of}
use Rattle.theory_origins.proofs.BodyWays as law
use Rattle.csp_moves.proofs.Found.{found_all, one_same}
use Rattle.csp_moves.proofs.hiding.by_tick.Goals as goal

pub returns : goal.returns
returns g c =
    let p = process_of c.args.process.body.now in
    let a = event_set_of c.args.process.events.now in
    let t = process_of c.args.target.now in
    found_all (Hiding p a) Tick t c.one_way.result _ _ c.one_way.ensures (one_same _ _ c.to_body.ensures) (λ s. law.hiding_tick_ways s p a t)
