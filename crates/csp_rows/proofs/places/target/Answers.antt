use Rattle.std.proofs.Common.{◌≤◌, length, rules, arith, subst, sym}
use Rattle.std.proofs.lemmas.Grind.{common_steps}
use Rattle.csp_rows.specs.declared.changes.Change.{Change}
use Rattle.csp_rows.specs.declared.places.Place.{Place}
use Rattle.csp_rows.specs.Places.{edit_of}
use Rattle.csp_rows.proofs.Copying.{start_within}
use Rattle.csp_rows.proofs.ChangedBytes.{is_target}
use Rattle.csp_rows.proofs.places.target.Goals as goal

pub slice_bounds-extend_from_slice-end : goal.slice_bounds-extend_from_slice-end
slice_bounds-extend_from_slice-end g c =
    let none : Change = record { hole = 0; part = record { 0 = 0 } } in
    let bytes = c.args.bytes.now in
    subst (λ (p : Place). p.start ≤ length bytes) (sym c.place_of-place.ensures)
    (start_within (edit_of c.args.places.now c.args.parts.now) bytes c.args.changes.now c.loop-change.copied c.loop-change.change-index none c.loop-change-test.true c.loop-change.invariant.rise)

pub returns-clause-spelled : goal.returns-clause-spelled
returns-clause-spelled g c =
    is_target c.args.bytes.now c.args.places.now c.args.changes.now c.args.parts.now c.extend_from_slice-2.new.self.items (first_of (search rules, grind (arith, common_steps)))
