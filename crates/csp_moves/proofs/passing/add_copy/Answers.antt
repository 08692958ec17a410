-- One more event.
use Rattle.std.proofs.Common.{[], ◌∷◌, ◌++◌, map, ◌∙◌, ap}
use Rattle.std.proofs.lemmas.List.{map-append}
use Rattle.csp_value.specs.Action.{event_of}
use Rattle.csp_moves.proofs.passing.add_copy.Goals as goal

pub returns : goal.returns
returns g c =
    ap (map event_of) c.in_ok-push.ensures.items ∙ map-append event_of c.args.events.now.items (c.in_ok-copy.copy ∷ []) ∙ ap (λ e. map event_of c.args.events.now.items ++ e ∷ []) c.in_ok-copy.ensures
