use Rattle.std.proofs.Common.{arith}
use Rattle.csp_parse.specs.Nests.{nest_of}
use Rattle.csp_parse.proofs.Rising.{no_lower, innermost_first, shuts}
use Rattle.csp_parse.proofs.nests.Nest.close.Goals as goal

pub returns-in-Some : goal.returns-in-Some
returns-in-Some g c = λ low.
    let old = nest_of c.args.self.now in
    let below = no_lower old.current old.around in
    shuts old (innermost_first c.pop.new.self.items c.args.self.now.around.items c.in-Some.around c.in-Some.ensures.items)
    (c.with_group-self.ensures (omega (arith, low, below)))
