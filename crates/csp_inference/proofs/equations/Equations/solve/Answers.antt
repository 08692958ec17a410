-- The equations are solved as they are lent.
use Rattle.std.proofs.Common.{map, subst}
use Rattle.csp_inference.specs.Equations.{equation_of}
use Rattle.csp_inference.specs.State.{Solved, state_in}
use Rattle.csp_inference.proofs.equations.Equations.solve.Goals as goal

pub returns-clause-solved : goal.returns-clause-solved
returns-clause-solved g c = subst (λ es. Solved (state_in c.args.self.now.state) (map equation_of es) (state_in c.solve.new.self) c.solve.result) c.as_slice.ensures.value c.solve.ensures
