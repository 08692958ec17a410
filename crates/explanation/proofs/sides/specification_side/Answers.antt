-- A run of the specification is one of that side.
use Rattle.std.proofs.Common.{Option, subst}
use Rattle.theory_syntax.specs.Process.{specification_of}
use Rattle.csp_term.specs.Script.{property_of, script_of}
use Rattle.csp_replay.specs.Hindrance.{hindrance_of}
use Rattle.csp_replay.specs.declared.way_to_stuck.StuckRun.{StuckRun}
use Rattle.explanation.specs.Sides.{IsSpecificationRun}
use Rattle.explanation.proofs.ToldRuns.{one_state_more, told_of}
use Rattle.explanation.proofs.sides.specification_side.Goals as goal

pub returns-in_default : goal.returns-in_default
returns-in_default g c =
    let F : Option (StuckRun g.row.A.Denot) → Type 0 = IsSpecificationRun (script_of c.args.script.now) (specification_of (property_of c.args.property.now)) (hindrance_of c.args.hindrance) c.args.most in
    subst F c.in_default.is c.in_ok-found.ensures

pub told_run-requires : goal.told_run-requires
told_run-requires g c =
    let script = script_of c.args.script.now in
    let h = hindrance_of c.args.hindrance in
    let F : Option (StuckRun g.row.A.Denot) → Type 0 = IsSpecificationRun script (specification_of (property_of c.args.property.now)) h c.args.most in
    let found = subst F c.in-Some.is c.in_ok-found.ensures in
    one_state_more script found.0 h c.in-Some.run' found.2

pub returns : goal.returns
returns g c =
    let script = script_of c.args.script.now in
    let h = hindrance_of c.args.hindrance in
    let F : Option (StuckRun g.row.A.Denot) → Type 0 = IsSpecificationRun script (specification_of (property_of c.args.property.now)) h c.args.most in
    let found = subst F c.in-Some.is c.in_ok-found.ensures in
    (found.0, found.1, told_of script found.0 h c.in-Some.run' found.2 c.in_ok-told.told c.in_ok-told.ensures)
