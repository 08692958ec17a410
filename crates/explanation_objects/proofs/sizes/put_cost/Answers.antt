-- Each field behind the other.
use Rattle.std.specs.Prelude.{codes}
use Rattle.theory_objects.specs.Answers.{known_fields}
use Rattle.explanation_objects.proofs.Putting.{both}
use Rattle.explanation_objects.proofs.sizes.put_cost.Goals as goal

pub returns : goal.returns
returns g c =
    let cost = c.args.cost in
    both c.put_if_known-2.result c.args.writer.now c.put_if_known.new.writer c.put_if_known-2.new.writer (known_fields (codes "milliseconds") cost.milliseconds) (known_fields (codes "kilobytes") cost.kilobytes)
    c.in_ok-put_if_known.ensures c.put_if_known-2.ensures
