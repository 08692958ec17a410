use Rattle.csp_numbers.proofs.ChannelEvents.{AreListedUpTo}
use Rattle.csp_numbers.proofs.listing.list_events.Given as goal

abbrev pub invariant-loop-place : goal.invariant-loop-place
invariant-loop-place g l = AreListedUpTo l.channels l.most l.place l.events.items
