-- A new kind, and the one that is made of it.
use Rattle.std.proofs.Common.{suc, ap}
use Rattle.theory_checking.specs.Inference.Chain.{OpenEnd, SetOver}
use Rattle.csp_inference.specs.Chain.{demand_of}
use Rattle.csp_inference.proofs.Adding.{adds_one}
use Rattle.csp_inference.proofs.equations.Equations.push_set.Goals as goal

pub returns-clause-behind : goal.returns-clause-behind
returns-clause-behind g c =
    adds_one c.args.self.now c.fresh.new.self c.push.new.self (suc c.args.self.now.next) _ _ c.in_ok-number.ensures.behind c.in_ok-push.ensures (ap (λ n. (SetOver (OpenEnd n), demand_of c.args.kind)) c.in_ok-number.ensures.number)
