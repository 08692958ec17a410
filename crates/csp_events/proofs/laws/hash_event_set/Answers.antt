-- Sets of events that stand for the same are equal, and equal ones make the same writes.
use Rattle.std.proofs.Common.{sym, ◌∙◌, ap}
use Rattle.std.specs.List.{fold}
use Rattle.csp_events.specs.contracts.event_set.EventSetHash.TheImpl.Laws as laws
use Rattle.csp_events.proofs.EventEquality.{event_set_tells}
use Rattle.csp_events.proofs.laws.hash_event_set.Goals as goal

pub returns : goal.returns
returns g c other same =
    let equal = (event_set_tells g.row.A g.A.Allocator g.A.Allocator-dict g.A.Destruct-dict).complete c.args.set.now other (sym same) in
    c.hash.ensures ∙ ap (fold g.H.Hasher.write c.args.hasher.now) (laws.respects_eq-law g.row.A g.A.Allocator g.A.Allocator-dict g.A.Destruct-dict c.args.set.now other equal)
