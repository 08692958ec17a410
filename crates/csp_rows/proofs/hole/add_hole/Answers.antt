use Rattle.std.proofs.Common.{List, refl, subst}
use Rattle.csp_rows.specs.declared.step.PartStep.{PartStep}
use Rattle.csp_rows.specs.Stacks.{IsOnTop}
use Rattle.csp_rows.specs.Holes.{AreKnownIn}
use Rattle.csp_rows.specs.Rows.{steps_at}
use Rattle.csp_rows.proofs.HoleChanges.{side_of_hole}
use Rattle.csp_rows.proofs.hole.add_hole.Goals as goal

pub returns : goal.returns
returns g c =
    let p0 = c.args.pool.now.items in
    let p1 = c.add_known.new.pool.items in
    let s0 = c.args.steps.now.items in
    let s1 = c.add_known.new.steps.items in
    side_of_hole c.args.hole c.args.row.now (steps_at c.args.parts.now c.args.row.now c.args.hole) p0 p1 c.add_change.new.pool.items s0 s1 c.in_ok-add_change.field-0 _
    (subst (λ (ss : List PartStep). IsOnTop s0 (AreKnownIn c.args.hole ss p0 p1) s1) c.known_steps.ensures c.in_ok-add_known.ensures) c.in_ok-add_change.ensures refl c.has_ended-has_ended.ensures
