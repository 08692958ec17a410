use Rattle.std.proofs.Common.{◌≡◌, ◌≢◌, length, refl, rules, ap}
use Rattle.theory_checking.specs.Inference.State.{bound_to}
use Rattle.csp_inference.specs.declared.chain.End.TheVariants as ending
use Rattle.csp_inference.specs.Chain.{end_of, over_all}
use Rattle.csp_inference.specs.State.{state_in}
use Rattle.csp_inference.proofs.Uniting.{empty, open_bound, open_itself, open_endless}
use Rattle.csp_inference.proofs.state.State.bind_open.Goals as goal

pub returns-then-ne : goal.returns-then-ne
returns-then-ne g c =
    let differs : c.args.end ≢ ending.Open c.args.number = search rules in (
      bound_to (state_in c.args.self.now) c.args.number.0 (over_all c.args.layers.now (end_of c.args.end)),
      open_bound (state_in c.args.self.now) c.args.number c.args.layers.now c.args.end differs,
      c.in_ok-bind.ensures,
    )

pub returns-then-is_empty : goal.returns-then-is_empty
returns-then-is_empty g c =
    let same : c.args.end ≡ ending.Open c.args.number = search rules in
    let none : length c.args.layers.now ≡ 0 = search rules in
    (state_in c.args.self.now, open_itself (state_in c.args.self.now) c.args.number c.args.layers.now c.args.end same (empty c.args.layers.now none), λ n. refl)

pub returns-else-is_empty : goal.returns-else-is_empty
returns-else-is_empty g c =
    let same : c.args.end ≡ ending.Open c.args.number = search rules in
    let some : length c.args.layers.now ≢ 0 = search rules in
    open_endless (state_in c.args.self.now) c.args.number c.args.layers.now c.args.end same (λ e. some (ap length e))
