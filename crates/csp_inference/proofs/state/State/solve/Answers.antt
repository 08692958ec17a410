use Rattle.std.proofs.Common.{Result, Err, map, sym, subst, ◌∙◌, ap}
use Rattle.std.proofs.lemmas.Result.{err_from_is_err_and}
use Rattle.csp_inference.specs.declared.misfit.Misfit.{Misfit}
use Rattle.csp_inference.specs.Equations.{equation_of}
use Rattle.csp_inference.specs.State.{Solved, state_in}
use Rattle.csp_inference.proofs.Solving.{solved_more, solved_no_more}
use Rattle.csp_inference.proofs.state.State.solve.Goals as goal

pub loop-equation-preserved : goal.loop-equation-preserved
loop-equation-preserved g c =
    solved_more (state_in c.args.self.now) (state_in c.loop-equation.self) c.args.equations.now c.loop-equation.equation-index _ c.loop-equation-test.true
    c.loop-equation.invariant (state_in c.unify.new.self) c.in_ok-unify.ensures

pub returns-in_err-unify : goal.returns-in_err-unify
returns-in_err-unify g c =
    let stop = solved_no_more (state_in c.args.self.now) (state_in c.loop-equation.self) c.args.equations.now c.loop-equation.equation-index _
    c.loop-equation-test.true c.loop-equation.invariant (state_in c.unify.new.self) (state_in c.unify.new.self) c.in_err-unify.field-0.0
    c.in_err-unify.ensures in
    let p = err_from_is_err_and c.from_residual.result c.from_residual.ensures.1 in
    let P : Result (Unit {0}) Misfit → Type 0 = λ r. Solved (state_in c.args.self.now) (map equation_of c.args.equations.now) (state_in c.unify.new.self) r in
    subst P (sym (p.1 ∙ ap Err p.2)) stop
