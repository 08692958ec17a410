use Rattle.std.proofs.Common.{◌+◌, ◌-◌, vec_len}
use Rattle.csp_inference.specs.State.{SaysTheSame, state_in}
use Rattle.csp_inference.proofs.state.State.make_room.Given as goal

abbrev pub invariant-loop-number : goal.invariant-loop-number
invariant-loop-number g l = SaysTheSame (state_in l.self) (state_in l.initial.self)

abbrev pub decreases-loop-number : goal.decreases-loop-number
decreases-loop-number g l = l.number.0 + 1 - vec_len l.self.chains
