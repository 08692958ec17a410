use Rattle.theory_semantics.specs.Meaning.Limits.{event_set_size}
use Rattle.csp_events.specs.Events.{event_set_of}
use Rattle.csp_spell.proofs.events.+push_event_set.Given as goal

abbrev pub decreases-push_event_set : goal.decreases-push_event_set
decreases-push_event_set g l = event_set_size (event_set_of l.set.now)
