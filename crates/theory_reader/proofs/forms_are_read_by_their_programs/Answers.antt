use Rattle.theory_reader.proofs.Laws.{reads_is}
use Rattle.theory_reader.proofs.forms_are_read_by_their_programs.Goals as goal

pub returns : goal.returns
returns c = reads_is
