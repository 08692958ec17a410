use Rattle.std.proofs.Common.{arith}
use Rattle.csp_term.specs.Term.{process_of}
use Rattle.csp_spell.proofs.WholeTerms.{found_is_spelled, spelled_is_found}
use Rattle.csp_spell.proofs.unpacking.unpack.Goals as goal

pub returns-clause-found : goal.returns-clause-found
returns-clause-found g c = found_is_spelled process_of c.read_whole.result c.args.bytes.now (λ i. omega (arith, c.type_inv.bytes i)) c.read_whole.ensures

pub returns-clause-only : goal.returns-clause-only
returns-clause-only g c = spelled_is_found process_of c.read_whole.result c.args.bytes.now c.read_whole.ensures
