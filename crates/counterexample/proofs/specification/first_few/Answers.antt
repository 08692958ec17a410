use Rattle.std.proofs.Common.{sym}
use Rattle.std.proofs.lemmas.List.{take_all}
use Rattle.counterexample.proofs.specification.first_few.Goals as goal

pub returns-else-few-states : goal.returns-else-few-states
returns-else-few-states g c = sym (take_all c.args.few c.args.states.now c.if-few-states.false)
