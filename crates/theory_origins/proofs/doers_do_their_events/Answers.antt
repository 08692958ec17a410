use Rattle.theory_origins.proofs.Doers.{doers_are, events_have_doers}
use Rattle.theory_origins.proofs.doers_do_their_events.Goals as goal

pub returns-clause-done : goal.returns-clause-done
returns-clause-done c = doers_are

pub returns-clause-some : goal.returns-clause-some
returns-clause-some c = events_have_doers
