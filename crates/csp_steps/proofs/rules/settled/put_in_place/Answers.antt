-- The term with the values put in, settled.
use Rattle.theory_semantics.specs.Meaning.Substitution.{put}
use Rattle.csp_expression.specs.Bindings.{bindings_of}
use Rattle.csp_term.specs.Term.{process_of}
use Rattle.csp_steps.proofs.rules.settled.put_in_place.Goals as goal

pub returns : goal.returns
returns g c = c.settled.ensures (put (bindings_of c.args.bindings.now) (process_of c.args.term.now)) c.in_ok-target.ensures
