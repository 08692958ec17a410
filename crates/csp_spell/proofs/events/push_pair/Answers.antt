-- A pair is spelled by its sides.
use Rattle.std.proofs.Common.{refl}
use Rattle.theory_spelling.specs.Spelling.{event_spelling, pair_spelling}
use Rattle.csp_events.specs.Events.{event_expression_of, renaming_pair_of}
use Rattle.csp_spell.proofs.Pushing.{behind_part, also_ok}
use Rattle.csp_spell.proofs.events.push_pair.Goals as goal

pub returns : goal.returns
returns g c =
    record {
      spelled = behind_part c.push_event-2.result c.args.bytes.now.items c.push_event.new.bytes.items c.push_event-2.new.bytes.items (event_spelling (event_expression_of c.args.pair.now.from)) (event_spelling (event_expression_of c.args.pair.now.to)) (pair_spelling (renaming_pair_of c.args.pair.now)) c.in_ok-push_event.ensures.spelled refl c.push_event-2.ensures.spelled;
      range = also_ok c.push_event-2.result c.push_event-2.ensures.range (λ h. (c.in_ok-push_event.ensures.range, h));
    }
