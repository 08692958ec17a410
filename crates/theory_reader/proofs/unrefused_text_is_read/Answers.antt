use Rattle.theory_reader.proofs.Trees.{unrefused_has_tree}
use Rattle.theory_reader.proofs.Trees.{unrefused_read}
use Rattle.theory_reader.proofs.unrefused_text_is_read.Goals as goal

pub returns-clause-tokens : goal.returns-clause-tokens
returns-clause-tokens c = unrefused_has_tree

pub returns-clause-text : goal.returns-clause-text
returns-clause-text c = unrefused_read
