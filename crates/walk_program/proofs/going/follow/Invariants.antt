-- What went out is the text of a walk by what was read, and it goes on where the walk is.
use Rattle.std.proofs.Common.{◌≡◌}
use Rattle.csp_print.specs.Names.{names_of}
use Rattle.csp_term.specs.Script.{script_of}
use Rattle.state_walk.specs.Walks.{IsKept, place_of, trail_of}
use Rattle.walk_program.specs.Asking.{request_of}
use Rattle.walk_program.proofs.Steps.{GoesOn}
use Rattle.walk_program.proofs.going.follow.Given as goal

abbrev pub invariant-loop : goal.invariant-loop
invariant-loop g l = record {
  kept : IsKept l.walk;
  same : script_of l.walk.script.now ≡ script_of l.fn.walk.script.now;
  goes_on : GoesOn (request_of l.settings) (script_of l.fn.walk.script.now) (names_of l.view.names.now) (trail_of l.fn.walk).start (g.I.Read.remaining l.fn.input) (g.I.Read.remaining l.input) (g.O.Sink.taken l.fn.out) (g.O.Sink.taken l.out) (g.O.Sink.has_failed l.out) (place_of l.walk);
}
