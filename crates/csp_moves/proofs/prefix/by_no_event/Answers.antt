-- A prefix does only events.
use Rattle.theory_syntax.specs.Value.{Tau, Tick}
use Rattle.csp_moves.proofs.Stepped.{no_event_found}
use Rattle.csp_moves.proofs.prefix.by_no_event.Goals as goal

pub returns : goal.returns
returns g c = record {
  tau = λ s p t prefix. no_event_found s p t c.no_ways.result Tau prefix (λ e is. cc is) c.no_ways.ensures;
  tick = λ s p t prefix. no_event_found s p t c.no_ways.result Tick prefix (λ e is. cc is) c.no_ways.ensures;
}
