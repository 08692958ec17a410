use Rattle.csp_term.specs.Term.{process_of}
use Rattle.csp_numbers.proofs.Forms.{other_is_part}
use Rattle.csp_numbers.proofs.head.of_binary.Goals as goal

pub returns-in-ExternalChoice : goal.returns-in-ExternalChoice
returns-in-ExternalChoice g c = other_is_part c.args.operator (process_of c.args.left.now) (process_of c.args.right.now) c.in-ExternalChoice.is
