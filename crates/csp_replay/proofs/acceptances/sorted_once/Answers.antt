-- Sorted lists of which each is kept once.
use Rattle.csp_replay.proofs.Sorted.{offers_rise, offers_stay}
use Rattle.csp_replay.proofs.acceptances.sorted_once.Goals as goal

pub returns-clause-rising : goal.returns-clause-rising
returns-clause-rising g c =
    offers_rise g.row.A g.A.AllocHandle g.A.AllocHandle-dict g.A.Allocator g.A.Allocator-dict g.A.Clone g.A.Clone-dict c.args.offers.items c.sort_unstable.new.self.items c.dedup.new.self.items c.dedup.ensures.filtered c.sort_unstable.ensures.sorted

pub returns-clause-same : goal.returns-clause-same
returns-clause-same g c =
    offers_stay g.row.A g.A.AllocHandle g.A.AllocHandle-dict g.A.Allocator g.A.Allocator-dict g.A.Clone g.A.Clone-dict c.args.offers.items c.sort_unstable.new.self.items c.dedup.new.self.items c.dedup.ensures.filtered c.sort_unstable.ensures.permutation
