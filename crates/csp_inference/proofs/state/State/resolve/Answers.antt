use Rattle.std.proofs.Common.{◌∙◌, sym, ap}
use Rattle.csp_inference.specs.State.{chains_of, found_at}
use Rattle.csp_inference.proofs.Finding.{found_known}
use Rattle.csp_inference.proofs.state.State.resolve.Goals as goal

pub returns : goal.returns
returns g c =
    let chain = c.in_ok-chain.chain in
    sym (found_known (chains_of c.args.self.now) chain.layers.items chain.end c.in_default.not-Open) ∙ ap (found_at (chains_of c.args.self.now)) c.in_ok-chain.ensures
