-- It is among the images that are found.
use Rattle.std.proofs.Common.{◌≡◌, ◌↔◌, IsTrue, Contains, List, map, ◌∙◌, ap, subst}
use Rattle.theory_syntax.specs.Value as pure
use Rattle.theory_semantics.specs.Meaning.Events.{or_itself}
use Rattle.csp_value.specs.Action.{event_of}
use Rattle.csp_events.specs.Imaging.{found_images}
use Rattle.csp_moves.proofs.passing.is_image.Goals as goal

pub returns : goal.returns
returns g c =
    let e = event_of c.args.event.now in
    let listed : map event_of c.as_slice-listed.result.now ≡ or_itself e (found_images c.args.images.now e) =
    ap (map event_of) c.as_slice-listed.ensures.value ∙ c.in_ok-found.ensures ∙ ap (λ f. or_itself f (found_images c.args.images.now f)) c.in_ok-copy.ensures in
    let P : List pure.Event → Type 0 = λ gs. IsTrue c.is_among.result ↔ Contains gs (event_of c.args.image.now) in
    subst P listed c.is_among.ensures
