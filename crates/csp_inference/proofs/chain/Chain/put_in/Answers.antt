use Rattle.std.proofs.Common.{◌≡◌, ◌≢◌, ◌∙◌, sym, rules}
use Rattle.csp_inference.specs.declared.chain.End.TheVariants as ending
use Rattle.csp_inference.specs.Chain.{end_of, over_all}
use Rattle.csp_inference.proofs.Layers.{put_at_end, put_elsewhere}
use Rattle.csp_inference.proofs.chain.Chain.put_in.Goals as goal

pub returns-then-ne : goal.returns-then-ne
returns-then-ne g c =
    let differs : c.args.self.now.end ≢ ending.Open c.args.number = search rules in
    sym (put_elsewhere c.args.self.now.layers.items c.args.self.now.end c.args.number (over_all c.args.layers.now (end_of c.args.end)) differs)

pub returns : goal.returns
returns g c =
    let same : c.args.self.now.end ≡ ending.Open c.args.number = search rules in
    c.in_ok-go_on.ensures ∙ sym (put_at_end c.args.self.now.layers.items c.args.self.now.end c.args.number (over_all c.args.layers.now (end_of c.args.end)) same)
