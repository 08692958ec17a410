-- No equation comes, and the place of the number says nothing.
use Rattle.std.proofs.Common.{append-nil, sym, arith}
use Rattle.csp_inference.specs.Equations.{equations_of}
use Rattle.csp_inference.proofs.equations.Equations.fresh.Goals as goal

pub returns-clause-behind : goal.returns-clause-behind
returns-clause-behind g c = record {
  met = sym (append-nil (equations_of c.args.self.now));
  next = omega arith;
  known = λ n. sym (c.in_ok-make_room.ensures.known n);
}
