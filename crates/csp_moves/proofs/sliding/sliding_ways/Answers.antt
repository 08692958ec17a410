-- What is seen of the left side comes so in any script.
use Rattle.csp_term.specs.Script.{script_of_parts}
use Rattle.csp_moves.proofs.sliding.sliding_ways.Goals as goal

pub returns-in-Tick : goal.returns-in-Tick
returns-in-Tick g c = c.by_visible.ensures (script_of_parts c.args.script.now)

pub returns-in-Event : goal.returns-in-Event
returns-in-Event g c = c.by_visible-in-Event.ensures (script_of_parts c.args.script.now)
