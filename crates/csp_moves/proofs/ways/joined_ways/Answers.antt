-- The ways of the operator between the sides.
use Rattle.std.proofs.Common.{◌≡◌, IfOk, sym, subst}
use Rattle.theory_syntax.specs.Process.{Process}
use Rattle.csp_term.specs.Script.{script_of_parts}
use Rattle.csp_term.specs.Term.{process_of}
use Rattle.csp_moves.specs.declared.operator.Joint.{Joint}
use Rattle.csp_moves.specs.Sides.{joined, joint_of}
use Rattle.csp_moves.specs.Way.{AreFoundIn, lent_action}
use Rattle.csp_moves.proofs.Apart.{joined_again}
use Rattle.csp_moves.proofs.Found.{if_so}
use Rattle.csp_moves.proofs.ways.joined_ways.Goals as goal

pub returns-in-Binary : goal.returns-in-Binary
returns-in-Binary g c =
    let s = script_of_parts c.args.script.now in
    let x = lent_action c.args.action in
    let t = process_of c.args.target.now in
    let w = c.in-Some.sides in
    let Q : Joint g.row.A.Denot → Type 0 = λ j. process_of c.args.term.now ≡ joined (joint_of j) (process_of w.left.now) (process_of w.right.now) in
    let is = subst Q c.in-Binary.is (joined_again (process_of c.args.term.now) (joint_of w.operator) (process_of w.left.now) (process_of w.right.now) c.in-Some.ensures) in
    let P : Process → Type 0 = λ p. IfOk c.binary_ways.result (AreFoundIn s p x t) in
    subst P (sym is) c.binary_ways.ensures

pub returns-in-Generalised : goal.returns-in-Generalised
returns-in-Generalised g c =
    let s = script_of_parts c.args.script.now in
    let x = lent_action c.args.action in
    let t = process_of c.args.target.now in
    let w = c.in-Some.sides in
    let Q : Joint g.row.A.Denot → Type 0 = λ j. process_of c.args.term.now ≡ joined (joint_of j) (process_of w.left.now) (process_of w.right.now) in
    let is = subst Q c.in-Generalised.is (joined_again (process_of c.args.term.now) (joint_of w.operator) (process_of w.left.now) (process_of w.right.now) c.in-Some.ensures) in
    let P : Process → Type 0 = λ p. IfOk c.generalised_ways.result (AreFoundIn s p x t) in
    subst P (sym is) c.generalised_ways.ensures

pub returns-in-Alphabetised : goal.returns-in-Alphabetised
returns-in-Alphabetised g c =
    let s = script_of_parts c.args.script.now in
    let x = lent_action c.args.action in
    let t = process_of c.args.target.now in
    let w = c.in-Some.sides in
    let Q : Joint g.row.A.Denot → Type 0 = λ j. process_of c.args.term.now ≡ joined (joint_of j) (process_of w.left.now) (process_of w.right.now) in
    let is = subst Q c.in-Alphabetised.is (joined_again (process_of c.args.term.now) (joint_of w.operator) (process_of w.left.now) (process_of w.right.now) c.in-Some.ensures) in
    let P : Process → Type 0 = λ p. IfOk c.alphabetised_ways.result (AreFoundIn s p x t) in
    subst P (sym is) c.alphabetised_ways.ensures

pub returns-in-Sliding : goal.returns-in-Sliding
returns-in-Sliding g c =
    let s = script_of_parts c.args.script.now in
    let x = lent_action c.args.action in
    let t = process_of c.args.target.now in
    let w = c.in-Some.sides in
    let Q : Joint g.row.A.Denot → Type 0 = λ j. process_of c.args.term.now ≡ joined (joint_of j) (process_of w.left.now) (process_of w.right.now) in
    let is = subst Q c.in-Sliding.is (joined_again (process_of c.args.term.now) (joint_of w.operator) (process_of w.left.now) (process_of w.right.now) c.in-Some.ensures) in
    let P : Process → Type 0 = λ p. IfOk c.sliding_ways.result (AreFoundIn s p x t) in
    subst P (sym is) c.sliding_ways.ensures
