-- The law of the operator.
use Rattle.theory_syntax.specs.Value.{Tick}
use Rattle.theory_syntax.specs.Process.{Renaming}
use Rattle.csp_events.specs.Events.{renaming_pairs_of}
use Rattle.csp_term.specs.Term.{process_of}
use Rattle.theory_origins.proofs.BodyWays as law
use Rattle.csp_moves.proofs.Found.{found_all, one_same}
use Rattle.csp_moves.proofs.renaming.by_tick.Goals as goal

pub returns : goal.returns
returns g c =
    let p = process_of c.args.process.body.now in
    let rs = renaming_pairs_of c.args.process.pairs.now.items in
    let t = process_of c.args.target.now in
    found_all (Renaming p rs) Tick t c.one_way.result _ _ c.one_way.ensures (one_same _ _ c.to_body.ensures) (λ s. law.renaming_tick_ways s p rs t)
