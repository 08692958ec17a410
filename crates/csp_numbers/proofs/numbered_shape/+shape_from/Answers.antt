-- The shape of a term, by those of the terms under its head.
use Rattle.std.proofs.Common.{◌+◌, ◌<◌, ◌^◌, Result, Err, sym, ap, subst, ◌∙◌, arith, rules}
use Rattle.theory_semantics.specs.Meaning.Limits.{size}
use Rattle.std.proofs.lemmas.Result.{err_from_is_err_and}
use Rattle.theory_shapes.specs.Parts.{shape_of}
use Rattle.csp_rows.specs.declared.shape.Shape.{Shape}
use Rattle.csp_expression.specs.declared.no_value.NoValue.{NoValue}
use Rattle.csp_term.specs.Script.{script_of_parts}
use Rattle.csp_term.specs.Term.{process_of}
use Rattle.csp_numbers.specs.Heads.{composition_of, frame_of}
use Rattle.csp_numbers.specs.Shaped.{AnswersShape}
use Rattle.csp_numbers.proofs.Heads.{at_least_holes, composed_larger, some_size}
use Rattle.csp_numbers.proofs.Shaping.{bits_fail, body_has, by_fails, composed_shaped, composition_has, frame_has, framed_shaped, inside_fails, left_has, part_shaped, right_has}
use Rattle.csp_numbers.proofs.numbered_shape.+shape_from.Goals as goal

pub hole-requires : goal.hole-requires
hole-requires g t c = let one = some_size (process_of c.args.term.now) in let few = c.requires.few in omega (arith, one, few)

pub returns-in-Part : goal.returns-in-Part
returns-in-Part g t c =
    part_shaped c.args.alphabet.now (script_of_parts c.args.script.now) c.args.next.now (process_of c.args.term.now) c.hole.new.next c.hole.result c.in-Part.ensures c.hole.ensures.shape c.hole.ensures.next

pub shape_from-requires-in-Composed : goal.shape_from-requires-in-Composed
shape_from-requires-in-Composed g t c κs within =
    let l = process_of c.in-Composed.left.now in
    let r = process_of c.in-Composed.right.now in
    let larger = composed_larger (process_of c.args.term.now) (composition_of c.in-Composed.composition) l r c.in-Composed.ensures in
    let holed = at_least_holes l in
    let behind = c.in_ok-left-in-Composed.ensures.next in
    let room = c.requires.few in
    let few : c.shape_from.new.next + size r < 2 ^ 32 = omega (arith, larger, holed, behind, room) in
    (omega (arith, c.decreases, larger), (within, search rules))

pub returns-in_err-bits-in-Composed : goal.returns-in_err-bits-in-Composed
returns-in_err-bits-in-Composed g t c =
    let es = c.args.alphabet.now in
    let script = script_of_parts c.args.script.now in
    let p = process_of c.args.term.now in
    let k = composition_of c.in-Composed.composition in
    let e = err_from_is_err_and c.from_residual.result c.from_residual.ensures.1 in
    let Q : Result (Shape g.row.A.Denot) NoValue → Type 0 = λ x. AnswersShape es script c.args.next.now (shape_of p) c.args.next.now x in
    subst Q (sym (e.1 ∙ ap Err e.2))
    (bits_fail g.row.A.Denot es script c.in_err-bits-in-Composed.field-0.0 c.args.next.now c.args.next.now k (shape_of p) (composition_has script p k (process_of c.in-Composed.left.now) (process_of c.in-Composed.right.now) c.in-Composed.ensures) c.in_err-bits-in-Composed.ensures)

pub returns-in_err-left-in-Composed : goal.returns-in_err-left-in-Composed
returns-in_err-left-in-Composed g t c =
    let es = c.args.alphabet.now in
    let script = script_of_parts c.args.script.now in
    let p = process_of c.args.term.now in
    let k = composition_of c.in-Composed.composition in
    let l = process_of c.in-Composed.left.now in
    let r = process_of c.in-Composed.right.now in
    let e = err_from_is_err_and c.from_residual-in_err-left-in-Composed.result c.from_residual-in_err-left-in-Composed.ensures.1 in
    let Q : Result (Shape g.row.A.Denot) NoValue → Type 0 = λ x. AnswersShape es script c.args.next.now (shape_of p) c.shape_from.new.next x in
    subst Q (sym (e.1 ∙ ap Err e.2))
    (inside_fails g.row.A.Denot es script c.in_err-left-in-Composed.field-0.0 c.args.next.now c.args.next.now c.shape_from.new.next c.shape_from.new.next (shape_of l) (shape_of p) (left_has script p k l r c.in-Composed.ensures) c.in_err-left-in-Composed.ensures)

pub returns-in_err-right-in-Composed : goal.returns-in_err-right-in-Composed
returns-in_err-right-in-Composed g t c =
    let es = c.args.alphabet.now in
    let script = script_of_parts c.args.script.now in
    let p = process_of c.args.term.now in
    let k = composition_of c.in-Composed.composition in
    let l = process_of c.in-Composed.left.now in
    let r = process_of c.in-Composed.right.now in
    let after = c.shape_from-in-Composed.new.next in
    let e = err_from_is_err_and c.from_residual-in_err-right-in-Composed.result c.from_residual-in_err-right-in-Composed.ensures.1 in
    let Q : Result (Shape g.row.A.Denot) NoValue → Type 0 = λ x. AnswersShape es script c.args.next.now (shape_of p) after x in
    subst Q (sym (e.1 ∙ ap Err e.2))
    (inside_fails g.row.A.Denot es script c.in_err-right-in-Composed.field-0.0 c.shape_from.new.next c.args.next.now after after (shape_of r) (shape_of p) (right_has script p k l r c.in-Composed.ensures) c.in_err-right-in-Composed.ensures)

pub returns-in_ok-composed-in-Composed : goal.returns-in_ok-composed-in-Composed
returns-in_ok-composed-in-Composed g t c =
    composed_shaped c.args.alphabet.now (script_of_parts c.args.script.now) c.args.next.now (process_of c.args.term.now) (composition_of c.in-Composed.composition) (process_of c.in-Composed.left.now) (process_of c.in-Composed.right.now) c.in-Composed.ensures
    c.in_ok-bits-in-Composed.bits c.in_ok-left-in-Composed.left c.in_ok-right-in-Composed.right c.in_ok-composed-in-Composed.field-0 c.shape_from.new.next c.shape_from-in-Composed.new.next
    c.in_ok-bits-in-Composed.ensures c.in_ok-left-in-Composed.ensures c.in_ok-right-in-Composed.ensures c.in_ok-composed-in-Composed.ensures

pub returns-in_err-frame-in-Framed : goal.returns-in_err-frame-in-Framed
returns-in_err-frame-in-Framed g t c =
    let es = c.args.alphabet.now in
    let script = script_of_parts c.args.script.now in
    let p = process_of c.args.term.now in
    let f = frame_of c.in-Framed.frame in
    let e = err_from_is_err_and c.from_residual-in_err-frame-in-Framed.result c.from_residual-in_err-frame-in-Framed.ensures.1 in
    let Q : Result (Shape g.row.A.Denot) NoValue → Type 0 = λ x. AnswersShape es script c.args.next.now (shape_of p) c.args.next.now x in
    subst Q (sym (e.1 ∙ ap Err e.2))
    (by_fails g.row.A.Denot es script c.in_err-frame-in-Framed.field-0.0 c.args.next.now c.args.next.now f (shape_of p) (frame_has script p f (process_of c.in-Framed.body.now) c.in-Framed.ensures) c.in_err-frame-in-Framed.ensures)

pub returns-in_err-body-in-Framed : goal.returns-in_err-body-in-Framed
returns-in_err-body-in-Framed g t c =
    let es = c.args.alphabet.now in
    let script = script_of_parts c.args.script.now in
    let p = process_of c.args.term.now in
    let f = frame_of c.in-Framed.frame in
    let b = process_of c.in-Framed.body.now in
    let after = c.shape_from-in-Framed.new.next in
    let e = err_from_is_err_and c.from_residual-in_err-body-in-Framed.result c.from_residual-in_err-body-in-Framed.ensures.1 in
    let Q : Result (Shape g.row.A.Denot) NoValue → Type 0 = λ x. AnswersShape es script c.args.next.now (shape_of p) after x in
    subst Q (sym (e.1 ∙ ap Err e.2))
    (inside_fails g.row.A.Denot es script c.in_err-body-in-Framed.field-0.0 c.args.next.now c.args.next.now after after (shape_of b) (shape_of p) (body_has script p f b c.in-Framed.ensures) c.in_err-body-in-Framed.ensures)

pub returns-in_ok-framed-in-Framed : goal.returns-in_ok-framed-in-Framed
returns-in_ok-framed-in-Framed g t c =
    framed_shaped c.args.alphabet.now (script_of_parts c.args.script.now) c.args.next.now (process_of c.args.term.now) (frame_of c.in-Framed.frame) (process_of c.in-Framed.body.now) c.in-Framed.ensures
    c.in_ok-frame-in-Framed.frame c.in_ok-body-in-Framed.body c.in_ok-framed-in-Framed.field-0 c.shape_from-in-Framed.new.next
    c.in_ok-frame-in-Framed.ensures c.in_ok-body-in-Framed.ensures c.in_ok-framed-in-Framed.ensures
