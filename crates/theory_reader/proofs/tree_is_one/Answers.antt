use Rattle.theory_reader.proofs.Trees.{tree_same}
use Rattle.theory_reader.proofs.Trees.{read_same}
use Rattle.theory_reader.proofs.tree_is_one.Goals as goal

pub returns-clause-tokens : goal.returns-clause-tokens
returns-clause-tokens c = tree_same

pub returns-clause-text : goal.returns-clause-text
returns-clause-text c = read_same
