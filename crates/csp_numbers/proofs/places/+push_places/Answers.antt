-- The sides are spelled one behind the other.
use Rattle.std.proofs.Common.{◌-◌, refl, arith}
use Rattle.csp_term.specs.Term.{process_of}
use Rattle.csp_spell.proofs.Pushing.{also_ok}
use Rattle.csp_numbers.specs.Heads.{composition_of, frame_of}
use Rattle.csp_numbers.proofs.Runs.{body_placed, both_placed, sides_placed}
use Rattle.csp_numbers.proofs.places.+push_places.Goals as goal

pub overflow_add-end : goal.overflow_add-end
overflow_add-end g t c =
    let placed = sides_placed (process_of c.args.term.now) (composition_of c.in-Composed.field-0) (process_of c.in-Composed.left.now) (process_of c.in-Composed.right.now) c.args.place.start c.args.place.end c.in_ok-end-in-Composed.field-0 _
    c.in-Composed.ensures c.requires.spelled c.in_ok-end-in-Composed.ensures refl
    in
    let within = placed.0 in
    omega (arith, within)

pub overflow_sub-start : goal.overflow_sub-start
overflow_sub-start g t c =
    (sides_placed (process_of c.args.term.now) (composition_of c.in-Composed.field-0) (process_of c.in-Composed.left.now) (process_of c.in-Composed.right.now) c.args.place.start c.args.place.end _ c.in_ok-start-in-Composed.field-0
    c.in-Composed.ensures c.requires.spelled refl c.in_ok-start-in-Composed.ensures).1

pub overflow_add-end-in-Framed : goal.overflow_add-end-in-Framed
overflow_add-end-in-Framed g t c =
    let within = body_placed (process_of c.args.term.now) (frame_of c.in-Framed.field-0) (process_of c.in-Framed.body.now) c.args.place.start c.args.place.end c.in_ok-end-in-Framed.field-0 c.in-Framed.ensures c.requires.spelled c.in_ok-end-in-Framed.ensures in
    omega (arith, within)

pub returns-in_ok-start-in-Composed : goal.returns-in_ok-start-in-Composed
returns-in_ok-start-in-Composed g t c =
    let begun = (sides_placed (process_of c.args.term.now) (composition_of c.in-Composed.field-0) (process_of c.in-Composed.left.now) (process_of c.in-Composed.right.now) c.args.place.start c.args.place.end _ c.in_ok-start-in-Composed.field-0
    c.in-Composed.ensures c.requires.spelled refl c.in_ok-start-in-Composed.ensures).2
    in
    also_ok c.push_places-in-Composed.result c.push_places-in-Composed.ensures
    (both_placed (process_of c.args.term.now) (composition_of c.in-Composed.field-0) (process_of c.in-Composed.left.now) (process_of c.in-Composed.right.now) c.args.place.start (c.args.place.end - c.in_ok-start-in-Composed.field-0)
    c.args.places.now.items c.push_places.new.places.items c.push_places-in-Composed.new.places.items c.in-Composed.ensures begun c.in_ok-push_places-in-Composed.ensures)
