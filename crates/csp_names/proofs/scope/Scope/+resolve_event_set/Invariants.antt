use Rattle.csp_parse.specs.EventSets.{event_set_of}
use Rattle.csp_names.proofs.Sizes.{set_size}
use Rattle.csp_names.proofs.scope.Scope.+resolve_event_set.Given as goal

abbrev pub decreases-resolve_event_set : goal.decreases-resolve_event_set
decreases-resolve_event_set g l = set_size (event_set_of l.set.now)
