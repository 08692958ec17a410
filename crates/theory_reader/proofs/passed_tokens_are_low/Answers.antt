use Rattle.theory_reader.proofs.Heights.{reads_count}
use Rattle.theory_reader.proofs.passed_tokens_are_low.Goals as goal

pub returns : goal.returns
returns c = reads_count
