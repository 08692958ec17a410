use Rattle.std.proofs.Common.{ap}
use Rattle.theory_reader.specs.Forms.{StartOperand}
use Rattle.csp_parse.proofs.starts.Start.guard.Goals as goal

pub returns-clause-makes : goal.returns-clause-makes
returns-clause-makes g c = ap StartOperand c.in_ok-guard.ensures.makes
