-- What the left side does alone, and its tick goes on as the right one.
use Rattle.std.proofs.Common.{map}
use Rattle.csp_steps.specs.Answering.{answered_of, target_of}
use Rattle.csp_steps.specs.Composing.{sequential_answers}
use Rattle.csp_steps.proofs.Collecting.{from_none}
use Rattle.csp_steps.proofs.sequential.before.Goals as goal

pub returns : goal.returns
returns g c = from_none c.new-steps.result.items c.add-added.new.steps.items (sequential_answers (map answered_of c.args.left.items) (target_of c.args.right.now) (target_of c.args.next.now)) c.new-steps.ensures.items c.in_ok-added.ensures
