-- The run of either side is spread from the start of that side.
use Rattle.std.proofs.Common.{subst, arith}
use Rattle.std.proofs.lemmas.List.{length-map}
use Rattle.csp_value.specs.Action.{action_of}
use Rattle.csp_term.specs.Term.{process_of}
use Rattle.explanation.specs.Sides.{IsEven, side_run_of}
use Rattle.explanation.specs.declared.sides.SideRun.{SideRun}
use Rattle.explanation.proofs.spread_sides.spread_at_once.Goals as goal

pub spread_told-requires-clause-closed : goal.spread_told-requires-clause-closed
spread_told-requires-clause-closed g c = c.requires.terms.implementation

pub spread_told-requires-clause-even : goal.spread_told-requires-clause-even
spread_told-requires-clause-even g c =
    let told = c.in-Implementation.told in
    let E : SideRun g.row.A.Denot → Type 0 = λ r. IsEven (side_run_of r) in
    let long = subst E c.in-Implementation.is c.requires.even in
    let states = length-map told.run.states.items process_of in
    let actions = length-map told.run.path.items action_of in
    omega (arith, long, states, actions)

pub spread_specification-requires-clause-even : goal.spread_specification-requires-clause-even
spread_specification-requires-clause-even g c =
    let told = c.in-Specification.told in
    let E : SideRun g.row.A.Denot → Type 0 = λ r. IsEven (side_run_of r) in
    let long = subst E c.in-Specification.is c.requires.even in
    let states = length-map told.run.states.items process_of in
    let actions = length-map told.run.path.items action_of in
    omega (arith, long, states, actions)
