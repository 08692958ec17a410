use Rattle.theory_explanation.proofs.PartNames.{named_elsewhere, named_there}
use Rattle.theory_explanation.proofs.parts_have_the_last_names.Goals as goal

pub returns-clause-there : goal.returns-clause-there
returns-clause-there c = named_there

pub returns-clause-elsewhere : goal.returns-clause-elsewhere
returns-clause-elsewhere c = named_elsewhere
