use Rattle.theory_checking.proofs.FirstRefused.{unrefused_passes}
use Rattle.theory_checking.proofs.ScriptThere.{has_script}
use Rattle.theory_checking.proofs.unrefused_tree_has_its_script.Goals as goal

pub returns-clause-passes : goal.returns-clause-passes
returns-clause-passes c = unrefused_passes

pub returns-clause-script : goal.returns-clause-script
returns-clause-script c = has_script
