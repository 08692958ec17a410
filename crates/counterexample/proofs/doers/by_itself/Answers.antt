-- One part, at the end of the way.
use Rattle.std.proofs.Common.{◌≡◌, List, [], ◌∷◌, ◌++◌, Option, Some, map, ap, ◌∙◌}
use Rattle.std.specs.Borrow.{Bor}
use Rattle.csp_value.specs.Action.{event_of}
use Rattle.csp_value.specs.declared.action.Event.{Event}
use Rattle.csp_moves.specs.Passage.{side_of}
use Rattle.csp_moves.specs.declared.passage.Side.{Side}
use Rattle.counterexample.specs.Doers.{doers_listed, lent_event, seen_event}
use Rattle.counterexample.specs.declared.doers.Doer.{Doer}
use Rattle.counterexample.proofs.DoersBehind.{one_behind}
use Rattle.counterexample.proofs.doers.by_itself.Goals as goal

pub returns : goal.returns
returns g c = λ x seen.
    let way = map side_of c.args.way.now in
    let some : seen_event x ≡ Some (event_of c.in-Some.event.now) = seen ∙ ap (λ (f : Option (Bor (Event g.row.A.Denot))). lent_event f) c.in-Some.is in
    ap (λ (ds : List (Doer g.row.A.Denot)). doers_listed ds) c.in_ok-push.ensures.items
    ∙ ap (λ (ds : List (Doer g.row.A.Denot)). doers_listed (ds ++ record { way = c.in_ok-way.way; event = c.in-Some.event } ∷ [])) c.new-all.ensures.items
    ∙ ap (λ (w : List Side). record { way = map side_of w; event = event_of c.in-Some.event.now } ∷ []) c.in_ok-way.ensures.items
    ∙ one_behind way x (event_of c.in-Some.event.now) some
