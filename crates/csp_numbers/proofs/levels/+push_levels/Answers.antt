use Rattle.csp_spell.proofs.Pushing.{also_ok}
use Rattle.csp_term.specs.Term.{process_of}
use Rattle.csp_numbers.specs.Heads.{composition_of, frame_of}
use Rattle.csp_numbers.proofs.Deeper.{body_levels, sides_levels}
use Rattle.csp_numbers.proofs.levels.+push_levels.Goals as goal

pub returns-in_ok-push_levels-in-Composed : goal.returns-in_ok-push_levels-in-Composed
returns-in_ok-push_levels-in-Composed g t c =
    also_ok c.push_levels-in-Composed.result c.push_levels-in-Composed.ensures
    (sides_levels (process_of c.args.term.now) (composition_of c.in-Composed.field-0) (process_of c.in-Composed.left.now) (process_of c.in-Composed.right.now) c.args.level
    c.args.all.now.items c.push_levels.new.all.items c.push_levels-in-Composed.new.all.items c.in-Composed.ensures c.in_ok-push_levels-in-Composed.ensures)

pub returns-in-Framed : goal.returns-in-Framed
returns-in-Framed g t c =
    also_ok c.push_levels-in-Framed.result c.push_levels-in-Framed.ensures
    (body_levels (process_of c.args.term.now) (frame_of c.in-Framed.field-0) (process_of c.in-Framed.body.now) c.args.level c.args.all.now.items c.push_levels-in-Framed.new.all.items c.in-Framed.ensures)
