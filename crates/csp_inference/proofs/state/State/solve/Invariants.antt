use Rattle.std.proofs.Common.{map, take}
use Rattle.theory_checking.specs.Inference.State.{IsSolved}
use Rattle.csp_inference.specs.Equations.{equation_of}
use Rattle.csp_inference.specs.State.{state_in}
use Rattle.csp_inference.proofs.state.State.solve.Given as goal

abbrev pub invariant-loop-equation : goal.invariant-loop-equation
invariant-loop-equation g l = IsSolved (state_in l.initial.self) (map equation_of (take l.equation-index l.equations)) (state_in l.self)
