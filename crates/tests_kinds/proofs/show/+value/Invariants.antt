use Rattle.std.proofs.Common.{◌+◌, ◌*◌}
use Rattle.csp_value.proofs.Measures.{one_size, sizes}
use Rattle.tests_kinds.proofs.show.+value.Given as goal

abbrev pub decreases-value : goal.decreases-value
decreases-value l = 3 * one_size l.item.now

abbrev pub decreases-constructed : goal.decreases-constructed
decreases-constructed l = 3 * sizes l.fields.now + 2

abbrev pub decreases-values : goal.decreases-values
decreases-values l = 3 * sizes l.items.now + 1
