use Rattle.std.proofs.Common.{arith}
use Rattle.csp_parse.specs.Nests.{nest_of}
use Rattle.csp_parse.proofs.Rising.{no_lower, innermost_first, opens}
use Rattle.csp_parse.proofs.nests.Nest.open.Goals as goal

pub returns-clause-opens : goal.returns-clause-opens
returns-clause-opens g c = λ low.
    let old = nest_of c.args.self.now in
    let below = no_lower old.current old.around in
    opens c.args.square old c.empty-self.ensures (c.one_more.ensures (omega (arith, low, below)))
    (innermost_first c.args.self.now.around.items c.push.new.self.items c.one_more.result c.in_ok-push.ensures.items)
