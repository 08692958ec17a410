-- One way more for each event.
use Rattle.std.proofs.Common.{[], refl, ◌∙◌, Some}
use Rattle.theory_syntax.specs.Value as pure
use Rattle.theory_syntax.specs.Value.{Ev}
use Rattle.csp_value.specs.Action.{event_of}
use Rattle.csp_term.specs.Term.{process_of}
use Rattle.theory_origins.specs.Origin.{Renames}
use Rattle.theory_origins.specs.Ways as meaning
use Rattle.theory_origins.specs.Ways.{Through, part}
use Rattle.csp_moves.proofs.Pushed.{all_ways, one_way_more}
use Rattle.csp_moves.proofs.renaming.through_renamed.Goals as goal

pub loop-event-init : goal.loop-event-init
loop-event-init g c = c.in_ok-ways.ensures

pub loop-event-preserved : goal.loop-event-preserved
loop-event-preserved g c =
    let p = process_of c.args.body.now in
    let u = process_of c.args.target.now in
    let f = event_of c.args.image.now in
    let way : pure.Event → meaning.Way = λ e. Through (Renames e f) (part p (Ev e) (Some u)) in
    one_way_more way [] c.args.events.now c.loop-event.event-index c.event-item.result c.loop-event-test.true c.event-item.is c.loop-event.ways.items c.push.new.self.items _ c.loop-event.invariant c.in_ok-push.ensures.items refl

pub returns : goal.returns
returns g c =
    let p = process_of c.args.body.now in
    let u = process_of c.args.target.now in
    let f = event_of c.args.image.now in
    let way : pure.Event → meaning.Way = λ e. Through (Renames e f) (part p (Ev e) (Some u)) in
    c.loop-event.invariant ∙ all_ways way c.args.events.now c.loop-event.event-index c.loop-event-test.false
