-- Each operand has fewer operators.
use Rattle.csp_events.proofs.Testing.{test_size}
use Rattle.csp_events.proofs.event_test.EventTest.+holds.Given as goal

abbrev pub decreases-holds : goal.decreases-holds
decreases-holds g l = test_size l.self.now
