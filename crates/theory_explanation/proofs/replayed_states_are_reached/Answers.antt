use Rattle.theory_explanation.proofs.Replays.{replay_reached}
use Rattle.theory_explanation.proofs.replayed_states_are_reached.Goals as goal

pub returns : goal.returns
returns c = λ script p v states replay. replay_reached script p v states replay
