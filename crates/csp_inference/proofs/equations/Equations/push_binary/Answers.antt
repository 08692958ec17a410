-- The number that the operator leaves open, and the kind of its value.
use Rattle.std.proofs.Common.{◌∙◌, ap}
use Rattle.theory_checking.specs.Inference.Expressions.{behind_binary, binary_value}
use Rattle.theory_syntax.specs.Operators.{binary_of}
use Rattle.csp_inference.specs.Chain.{demand_of}
use Rattle.csp_inference.proofs.Adding.{adds_one}
use Rattle.csp_inference.proofs.equations.Equations.push_binary.Goals as goal

pub returns-clause-behind : goal.returns-clause-behind
returns-clause-behind g c =
    adds_one c.args.self.now c.binary_number.new.self c.push.new.self (behind_binary (binary_of c.args.operator) c.args.self.now.next) _ _ c.in_ok-number.ensures.behind c.in_ok-push.ensures
    (ap (λ k. (k, demand_of c.args.kind)) (c.binary_value.ensures ∙ ap (binary_value (binary_of c.args.operator)) c.in_ok-number.ensures.number))
