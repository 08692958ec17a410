-- The property and the implementation are copied.
use Rattle.csp_term.proofs.assertion.AssertionTryCopy.try_copy.Goals as goal

pub returns : goal.returns
returns g c =
    let negated = c.args.self.now.negated in
    λ i. record { negated = negated; property = c.in_ok-try_copy.ensures i; implementation = c.in_ok-try_copy-2.ensures i }
