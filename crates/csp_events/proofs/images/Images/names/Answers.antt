-- A pair names the event where one makes something of it.
use Rattle.csp_value.specs.Action.{event_of}
use Rattle.csp_events.specs.Imaging.{found_images}
use Rattle.csp_events.proofs.Naming.{found_in_both}
use Rattle.csp_events.proofs.SourcesOf.{some_told}
use Rattle.csp_events.proofs.images.Images.names.Goals as goal

pub returns : goal.returns
returns g c =
    let e = event_of c.args.event.now in
    let all = c.add_by_events.new.found in
    some_told all (found_images c.args.self.now e) c.is_empty.result c.is_empty.ensures
    (found_in_both c.args.self.now e c.new-found.result.items c.add_by_channels.new.found.items all.items c.new-found.ensures.items c.in_ok-add_by_channels.ensures c.in_ok-add_by_events.ensures)
