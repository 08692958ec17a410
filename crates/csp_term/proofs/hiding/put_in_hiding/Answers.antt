use Rattle.std.proofs.Common.{◌∙◌, ap}
use Rattle.theory_syntax.specs.Process as pure
use Rattle.csp_term.specs.Term.{process_of}
use Rattle.csp_term.proofs.Forms.{of_hiding}
use Rattle.csp_term.proofs.hiding.put_in_hiding.Goals as goal

pub returns : goal.returns
returns g c = of_hiding g.row.A.Denot c.args.body c.in_ok-put_in.field-0 ∙ ap (pure.Hiding (process_of c.args.body)) c.in_ok-put_in.ensures
