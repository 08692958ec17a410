-- The name, and the steps in brackets.
use Rattle.std.proofs.Common.{map}
use Rattle.std.specs.Prelude.{codes}
use Rattle.theory_objects.specs.Accounts.{step_fields}
use Rattle.csp_print.specs.Names.{names_of}
use Rattle.explanation_objects.specs.Steps.{steps_of}
use Rattle.explanation_objects.proofs.Objects.{listed_objects}
use Rattle.explanation_objects.proofs.steps.put_steps.Goals as goal

pub returns : goal.returns
returns g c =
    listed_objects c.end_array.result c.args.writer.now c.key.new.self c.begin_array.new.self c.put_each_step.new.writer c.end_array.new.self (codes "steps")
    (map (step_fields (names_of c.args.names.now)) (steps_of c.args.path.now c.args.states.now c.args.origins.now)) (c.in_ok-key.ensures.room.0, c.in_ok-key.ensures.ok) (c.in_ok-begin_array.ensures.room.0, c.in_ok-begin_array.ensures.ok)
    c.in_ok-put_each_step.ensures c.end_array.ensures
