use Rattle.std.proofs.Common.{◌∙◌, ap}
use Rattle.theory_syntax.specs.Process as pure
use Rattle.csp_term.specs.Term.{process_of}
use Rattle.csp_term.proofs.Forms.{of_guard}
use Rattle.csp_term.proofs.substitution.put_in_guard.Goals as goal

pub returns : goal.returns
returns g c = of_guard g.row.A.Denot c.in_ok-put_in.field-0 c.args.body ∙ ap (λ e. pure.Guard e (process_of c.args.body)) c.in_ok-put_in.ensures
