use Rattle.std.proofs.Common.{ap, arith}
use Rattle.csp_parse.specs.Nests.{nesting_is, nest_of}
use Rattle.csp_parse.proofs.Rising.{no_lower, adds}
use Rattle.csp_parse.proofs.nests.Nest.count.Goals as goal

pub returns-in-Counts-clause-counts : goal.returns-in-Counts-clause-counts
returns-in-Counts-clause-counts g c = λ low.
    let old = nest_of c.args.self.now in
    let below = no_lower old.current old.around in
    adds (nesting_is c.args.nesting) old (ap nesting_is c.in-Counts.is) (c.one_more-self.ensures (omega (arith, low, below)))
