-- Values are put into each argument.
use Rattle.csp_expression.specs.Bindings.{bindings_of}
use Rattle.csp_term.proofs.TermPutting.{put_call}
use Rattle.csp_term.proofs.substitution.put_in_call.Goals as goal

pub returns : goal.returns
returns g c = put_call (bindings_of c.args.bindings.now) c.args.equation c.args.arguments.now c.in_ok-put_in_all.field-0 c.in_ok-put_in_all.ensures
