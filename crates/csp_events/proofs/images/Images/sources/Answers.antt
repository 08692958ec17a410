-- What both lists and the event itself make of it.
use Rattle.std.proofs.Common.{◌≡◌, List, ◌∷◌, ◌++◌, [], map, flat_map, sym, ◌∙◌, ap, subst}
use Rattle.std.proofs.lemmas.List.{map-append}
use Rattle.theory_syntax.specs.Value as pure
use Rattle.csp_value.specs.Action.{event_of}
use Rattle.csp_events.specs.Sources.{AreSources, channel_source, event_source}
use Rattle.csp_events.proofs.SourcesOf.{with_own}
use Rattle.csp_events.proofs.images.Images.sources.Goals as goal
use Rattle.csp_events.proofs.images.Images.sources.Goals.{then-not-branch+in_ok-try_copy+in_ok-push, else-not-branch}

pub returns : goal.returns
returns g c =
    let images = c.args.self.now in
    let f = event_of c.args.image.now in
    let by_channels = flat_map (channel_source f) images.channels.items in
    let before = c.add_event_sources.new.found.items in
    let first = map event_of c.add_channel_sources.new.found.items in
    let second = map event_of before in
    let one : first ≡ by_channels = c.in_ok-add_channel_sources.ensures ∙ ap (λ xs. map event_of xs ++ by_channels) c.new-found.ensures.items in
    let both = with_own images f c.in_ok-names.field-0 first second c.in_ok-names.ensures one c.in_ok-add_event_sources.ensures in
    elim c.if-not-branch.branch [
      | then-not-branch+in_ok-try_copy+in_ok-push w ↦
          let copy = w.in_ok-try_copy.field-0 in
          let all : map event_of w.push.new.self.items ≡ second ++ f ∷ [] =
          ap (map event_of) w.in_ok-push.ensures.items ∙ map-append event_of before (copy ∷ []) ∙ ap (λ e. second ++ e ∷ []) w.in_ok-try_copy.ensures in
          let P : List pure.Event → Type 0 = AreSources images f in
          rw w.found-is (subst P (sym all) (both.1 w.if-not-branch.true))
      | else-not-branch w ↦ rw w.found-is (both.0 w.if-not-branch.false)
    ]
