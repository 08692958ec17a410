-- The binary search tells whether it is there.
use Rattle.std.proofs.Common.{◌∙◌}
use Rattle.std.proofs.lemmas.Fn.{always_returns_same}
use Rattle.theory_syntax.specs.Value.{event_cmp}
use Rattle.theory_syntax.proofs.Orders.{event_total}
use Rattle.csp_value.specs.Action.{event_of}
use Rattle.csp_events.specs.Testing.{event_with}
use Rattle.csp_events.proofs.Halving.{told_by_halving}
use Rattle.csp_events.proofs.event_test.is_beginning.Goals as goal

pub returns : goal.returns
returns g c =
    let wanted = event_with c.args.channel c.args.fields.now in
    let found = c.binary_search_by-found.ensures.position (λ e. event_cmp (event_of e) wanted) (always_returns_same _ _ _ (λ a r f k. (k.met.1, λ j. (k.met.0.0 j, k.met.0.1 j)))) in
    c.is_ok.ensures.value ∙ told_by_halving event_total event_of wanted c.args.beginnings.now c.binary_search_by-found.result c.requires c.binary_search_by-found.ensures.bound found
