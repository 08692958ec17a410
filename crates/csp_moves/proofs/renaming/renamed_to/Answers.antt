-- The events that are renamed to the one, of those that lead to the body of the target.
use Rattle.std.proofs.Common.{◌≡◌, ap, Contains, List, Err, map, subst}
use Rattle.csp_value.specs.Action.{event_of}
use Rattle.csp_events.specs.Events.{renaming_pairs_of}
use Rattle.csp_term.specs.Script.{script_of_parts}
use Rattle.csp_term.specs.Term.{process_of}
use Rattle.csp_moves.proofs.Bodies as body
use Rattle.csp_moves.proofs.Found.{if_so}
use Rattle.csp_events.specs.declared.renaming_pair.RenamingPair.{RenamingPair}
use Rattle.csp_events.specs.Imaging.{AreMade, found_images}
use Rattle.theory_semantics.specs.Meaning.Events.{images, renaming}
use Rattle.csp_moves.specs.Passing.{HasImage}
use Rattle.csp_moves.proofs.Events.{image_of_found, passing_as}
use Rattle.csp_moves.proofs.renaming.renamed_to.Goals as goal

pub returns-in_default : goal.returns-in_default
returns-in_default g c =
    let s = script_of_parts c.args.script.now in
    let p = process_of c.args.process.body.now in
    let rs = renaming_pairs_of c.args.process.pairs.now.items in
    let t = process_of c.args.target.now in
    body.no_renamed_body s p t rs (event_of c.args.event.now) (map event_of c.new.result.items) c.in_default.ensures

pub returns-in_default-found : goal.returns-in_default-found
returns-in_default-found g c =
    let s = script_of_parts c.args.script.now in
    let p = process_of c.args.process.body.now in
    let rs = renaming_pairs_of c.args.process.pairs.now.items in
    let t = process_of c.args.target.now in
    let none = rw c.in_default-found.is at c.in_ok-found.ensures in
    let P : List (RenamingPair g.row.A.Denot) → Type 0 = λ zs. renaming s (renaming_pairs_of zs) ≡ Err none.0 in
    body.no_renamed_images s p t rs (event_of c.args.event.now) (map event_of c.new-in_default-found.result.items) (ap (map event_of) c.new-in_default-found.ensures.items) none.0 (subst P c.as_slice-listed.ensures.value none.1)

pub returns : goal.returns
returns g c =
    let s = script_of_parts c.args.script.now in
    let p = process_of c.args.process.body.now in
    let rs = renaming_pairs_of c.args.process.pairs.now.items in
    let t = process_of c.args.target.now in
    let f = event_of c.args.event.now in
    let u = process_of c.in-Some.body_target.now in
    let found = rw c.in-Some-found.is at c.in_ok-found.ensures in
    let images_found = c.in-Some-found.images in
    let P : List (RenamingPair g.row.A.Denot) → Type 0 = λ zs. AreMade images_found (renaming s (renaming_pairs_of zs)) in
    let made = subst P c.as_slice-listed.ensures.value found.0 in
    let same = image_of_found f s rs made.0 (found_images images_found) made.1 made.2 in
    if_so c.renamed_from.result c.renamed_from.ensures
    (λ events are. body.renamed_events_are s p t u (map event_of events.items) rs f c.in-Some.ensures
    (passing_as s p u (HasImage images_found f) (λ e. Contains (images s rs e) f) (map event_of events.items) (λ e. (same e).0) (λ e. (same e).1) are))
