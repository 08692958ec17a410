-- A step is looked for in parts that weigh less, so each call counts less than eight times the weight.
use Rattle.std.proofs.Common.{suc, ◌+◌, ◌*◌, max, map, take, None}
use Rattle.std.specs.List.{AllByRecursion}
use Rattle.theory_origins.specs.Ways.{TellsBy, way_weight}
use Rattle.theory_origins.specs.Weight.{weight}
use Rattle.csp_term.specs.Script.{script_of_parts}
use Rattle.csp_term.specs.Term.{process_of}
use Rattle.csp_moves.specs.Way.{way_of}
use Rattle.csp_moves.proofs.Along.{most_weight}
use Rattle.csp_moves.proofs.finding.+origin.Given as goal

abbrev pub decreases-origin_of_step : goal.decreases-origin_of_step
decreases-origin_of_step g l = 5 + 8 * weight (script_of_parts l.script.now) (process_of l.term.now)

abbrev pub decreases-first_along : goal.decreases-first_along
decreases-first_along g l = 3 + 8 * most_weight (script_of_parts l.script.now) (map way_of l.ways.now)

abbrev pub invariant-first_along-loop-way : goal.invariant-first_along-loop-way
invariant-first_along-loop-way g l = AllByRecursion (λ way. TellsBy (script_of_parts l.script) way None) (map way_of (take l.way-index l.ways))

abbrev pub decreases-along : goal.decreases-along
decreases-along g l = 2 + 8 * way_weight (script_of_parts l.script.now) (way_of l.way)

abbrev pub decreases-through : goal.decreases-through
decreases-through g l = 1 + 8 * suc (weight (script_of_parts l.script.now) (process_of l.part.process.now))

abbrev pub decreases-of_both : goal.decreases-of_both
decreases-of_both g l = 1 + 8 * suc (max (weight (script_of_parts l.script.now) (process_of l.left.process.now)) (weight (script_of_parts l.script.now) (process_of l.right.process.now)))

abbrev pub decreases-of_part : goal.decreases-of_part
decreases-of_part g l = 6 + 8 * weight (script_of_parts l.script.now) (process_of l.part.process.now)
