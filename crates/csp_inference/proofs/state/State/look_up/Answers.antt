use Rattle.std.proofs.Common.{◌∙◌, sym, ap}
use Rattle.csp_inference.specs.Chain.{chain_of, end_of, over_all}
use Rattle.csp_inference.specs.State.{chains_of}
use Rattle.csp_inference.proofs.Finding.{found_chain, found_open}
use Rattle.csp_inference.proofs.state.State.look_up.Goals as goal

pub returns : goal.returns
returns g c =
    let layers = c.args.chain.layers.items in
    let rest = c.in-Some.rest.now in
    c.in_ok-go_on.ensures ∙ ap (λ ls. over_all layers (over_all ls (end_of rest.end))) c.deref.ensures.value
    ∙ sym (found_chain (chains_of c.args.self.now) layers c.args.chain.end c.args.number (chain_of rest) c.requires (sym c.in-Some.ensures))

pub returns-in_default : goal.returns-in_default
returns-in_default g c = sym (found_open (chains_of c.args.self.now) c.args.chain.layers.items c.args.chain.end c.args.number c.requires (sym c.in_default.ensures))
