use Rattle.theory_checking.proofs.ConstructorRows.{datatypes_in_rows, owners_of_tree, owners_of_script, owners_counted}
use Rattle.theory_checking.proofs.names.constructors_of_trees_are_in_a_row.Goals as goal

pub returns-clause-rows : goal.returns-clause-rows
returns-clause-rows c = datatypes_in_rows

pub returns-clause-tree : goal.returns-clause-tree
returns-clause-tree c = owners_of_tree

pub returns-clause-script : goal.returns-clause-script
returns-clause-script c = owners_of_script

pub returns-clause-counted : goal.returns-clause-counted
returns-clause-counted c = owners_counted 0
