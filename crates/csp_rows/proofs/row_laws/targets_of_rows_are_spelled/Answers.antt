use Rattle.csp_rows.proofs.Leading.{limits_told, spells}
use Rattle.csp_rows.proofs.row_laws.targets_of_rows_are_spelled.Goals as goal

pub returns-clause-within : goal.returns-clause-within
returns-clause-within g c = λ z script r pool s run answer is has tells. limits_told z script r is pool s run has answer tells

pub returns-clause-spelled : goal.returns-clause-spelled
returns-clause-spelled g c = λ z script r pool s run bytes is has fit made. spells z script r is pool s run has bytes fit made
