use Rattle.std.proofs.Common.{◌≡◌, ◌+◌, arith}
use Rattle.csp_parse.proofs.nests.Group.one_more.Goals as goal

pub returns : goal.returns
returns c low =
    let direct : c.saturating_add.result ≡ c.args.self.direct + 1 = omega (arith, c.saturating_add.ensures, low) in
    λ i. record { square = c.args.self.square; direct = direct i; deepest = c.args.self.deepest }
