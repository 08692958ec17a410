-- Through the body by each of the events.
use Rattle.std.proofs.Common.{[], map, refl}
use Rattle.theory_syntax.specs.Value.{Ev}
use Rattle.theory_syntax.specs.Process.{Renaming}
use Rattle.csp_value.specs.Action.{event_of}
use Rattle.csp_events.specs.Events.{renaming_pairs_of}
use Rattle.csp_term.specs.Term.{process_of}
use Rattle.theory_origins.proofs.BodyWays as law
use Rattle.csp_moves.proofs.Bodies as body
use Rattle.csp_moves.proofs.Found.{found_in}
use Rattle.csp_moves.proofs.renaming.by_event.Goals as goal

pub returns-in_default : goal.returns-in_default
returns-in_default g c = λ s are.
    let p = process_of c.args.process.body.now in
    let rs = renaming_pairs_of c.args.process.pairs.now.items in
    let t = process_of c.args.target.now in
    let f = event_of c.args.event.now in
    found_in s (Renaming p rs) (Ev f) t c.no_ways.result _ [] c.no_ways.ensures refl (law.no_renamed_ways s p rs t f c.in_default.ensures)

pub returns : goal.returns
returns g c = λ s are.
    let p = process_of c.args.process.body.now in
    let rs = renaming_pairs_of c.args.process.pairs.now.items in
    let t = process_of c.args.target.now in
    let f = event_of c.args.event.now in
    found_in s (Renaming p rs) (Ev f) t c.through_renamed.result _ _ c.through_renamed.ensures refl
    (body.renamed_event_are s p rs t f (process_of c.in-Some.body_target.now) (map event_of c.args.events.now) c.in-Some.ensures are)
