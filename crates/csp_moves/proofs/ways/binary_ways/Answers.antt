-- The ways of each operator.
use Rattle.std.proofs.Common.{IfOk, sym, subst}
use Rattle.theory_syntax.specs.Operators.{binary_process}
use Rattle.theory_syntax.specs.declared.process_operator.ProcessOperator.{ProcessOperator}
use Rattle.csp_term.specs.Script.{script_of_parts}
use Rattle.csp_term.specs.Term.{process_of}
use Rattle.csp_moves.specs.Way.{AreFoundIn, lent_action}
use Rattle.csp_moves.proofs.Found.{if_so}
use Rattle.csp_moves.proofs.ways.binary_ways.Goals as goal

pub returns-in-ExternalChoice : goal.returns-in-ExternalChoice
returns-in-ExternalChoice g c =
    let P : ProcessOperator → Type 0 = λ op. IfOk c.external_ways.result (AreFoundIn (script_of_parts c.args.script.now) (binary_process op (process_of c.args.sides.left.now) (process_of c.args.sides.right.now)) (lent_action c.args.action) (process_of c.args.target.now)) in
    subst P (sym c.in-ExternalChoice.is) (if_so c.external_ways.result c.external_ways.ensures (λ ways h. h (script_of_parts c.args.script.now)))

pub returns-in-InternalChoice : goal.returns-in-InternalChoice
returns-in-InternalChoice g c =
    let P : ProcessOperator → Type 0 = λ op. IfOk c.internal_ways.result (AreFoundIn (script_of_parts c.args.script.now) (binary_process op (process_of c.args.sides.left.now) (process_of c.args.sides.right.now)) (lent_action c.args.action) (process_of c.args.target.now)) in
    subst P (sym c.in-InternalChoice.is) c.internal_ways.ensures

pub returns-in-Sequential : goal.returns-in-Sequential
returns-in-Sequential g c =
    let P : ProcessOperator → Type 0 = λ op. IfOk c.sequential_ways.result (AreFoundIn (script_of_parts c.args.script.now) (binary_process op (process_of c.args.sides.left.now) (process_of c.args.sides.right.now)) (lent_action c.args.action) (process_of c.args.target.now)) in
    subst P (sym c.in-Sequential.is) c.sequential_ways.ensures

pub returns-in-Interleaving : goal.returns-in-Interleaving
returns-in-Interleaving g c =
    let P : ProcessOperator → Type 0 = λ op. IfOk c.interleaving_ways.result (AreFoundIn (script_of_parts c.args.script.now) (binary_process op (process_of c.args.sides.left.now) (process_of c.args.sides.right.now)) (lent_action c.args.action) (process_of c.args.target.now)) in
    subst P (sym c.in-Interleaving.is) (if_so c.interleaving_ways.result c.interleaving_ways.ensures (λ ways h. h (script_of_parts c.args.script.now)))

pub returns-in-Interrupt : goal.returns-in-Interrupt
returns-in-Interrupt g c =
    let P : ProcessOperator → Type 0 = λ op. IfOk c.interrupt_ways.result (AreFoundIn (script_of_parts c.args.script.now) (binary_process op (process_of c.args.sides.left.now) (process_of c.args.sides.right.now)) (lent_action c.args.action) (process_of c.args.target.now)) in
    subst P (sym c.in-Interrupt.is) (if_so c.interrupt_ways.result c.interrupt_ways.ensures (λ ways h. h (script_of_parts c.args.script.now)))
