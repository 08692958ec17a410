-- The side that is taken, if one is.
use Rattle.std.proofs.Common.{Option, subst}
use Rattle.theory_semantics.specs.Meaning.Unfolding.{settled}
use Rattle.csp_term.specs.Script.{script_of_parts}
use Rattle.csp_term.specs.Term.{process_of}
use Rattle.csp_moves.specs.declared.passage.Side.{Side}
use Rattle.csp_moves.specs.Choice.{IsChosen}
use Rattle.csp_moves.proofs.Chosen.{chosen_found, none_chosen}
use Rattle.csp_moves.proofs.choice.internal_by_tau.Goals as goal

pub returns-in-Some : goal.returns-in-Some
returns-in-Some g c =
    let s = script_of_parts c.args.script.now in
    let p = process_of c.args.left.now in
    let q = process_of c.args.right.now in
    let t = process_of c.args.target.now in
    let I : Option Side → Type 0 = IsChosen (settled s p) (settled s q) t in
    chosen_found s p q t c.one_way.result c.in-Some.side (subst I c.in-Some.is c.in_ok-chosen.ensures) c.one_way.ensures

pub returns-in-None : goal.returns-in-None
returns-in-None g c =
    let s = script_of_parts c.args.script.now in
    let p = process_of c.args.left.now in
    let q = process_of c.args.right.now in
    let t = process_of c.args.target.now in
    let I : Option Side → Type 0 = IsChosen (settled s p) (settled s q) t in
    none_chosen s p q t c.no_ways.result (subst I c.in-None.is c.in_ok-chosen.ensures) c.no_ways.ensures
