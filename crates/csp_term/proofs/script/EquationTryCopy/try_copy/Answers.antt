-- The parameters and the body are copied.
use Rattle.std.proofs.Common.{◌≡◌, ◌∙◌, map}
use Rattle.csp_term.proofs.script.EquationTryCopy.try_copy.Goals as goal

pub returns : goal.returns
returns g c =
    let same : c.in_ok-from_slice.field-0.items ≡ c.args.self.now.parameters.items = c.in_ok-from_slice.ensures.items ∙ c.as_slice.ensures.value in
    λ i. record { parameters = map (λ n. n.0) (same i); body = c.in_ok-try_copy.ensures i }
