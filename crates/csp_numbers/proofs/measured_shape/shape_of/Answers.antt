use Rattle.std.proofs.Common.{Err, sym, subst}
use Rattle.theory_syntax.specs.Process.{Script}
use Rattle.theory_shapes.specs.Operators.{HasValues}
use Rattle.theory_shapes.specs.Parts.{shape_of}
use Rattle.csp_expression.specs.declared.no_value.NoValue.{NoValue}
use Rattle.csp_term.specs.Script.{script_of_parts}
use Rattle.csp_term.specs.Term.{process_of}
use Rattle.csp_numbers.specs.Shaped.{AnswersShape}
use Rattle.csp_numbers.proofs.Shaping.{measured}
use Rattle.csp_numbers.proofs.measured_shape.shape_of.Goals as goal

pub returns-in_ok-levels-in-Ok : goal.returns-in_ok-levels-in-Ok
returns-in_ok-levels-in-Ok g c =
    measured {A = g.row.A.Denot} c.args.alphabet.now c.args.script.now (script_of_parts c.parts.result.now) (shape_of (process_of c.args.term.now)) c.shape_from.new.next c.in-Ok.shape c.in_ok-levels-in-Ok.levels c.own_size_of-own_size.result
    c.parts.ensures.value c.in-Ok.ensures c.in_ok-levels-in-Ok.ensures c.own_size_of-own_size.ensures

pub returns-in-Err-Cause : goal.returns-in-Err-Cause
returns-in-Err-Cause g c has =
    let script = script_of_parts c.parts.result.now in
    let s = shape_of (process_of c.args.term.now) in
    let P : NoValue → Type 0 = λ e. AnswersShape {A = g.row.A.Denot} c.args.alphabet.now script 0 s c.shape_from.new.next (Err e) in
    let none : HasValues script s → ⊥ = subst P c.in-Err-Cause.field-0-is c.in-Err-Cause.ensures in
    none (subst (λ (k : Script). HasValues k s) (sym c.parts.ensures.value) has)
