use Rattle.csp_value.proofs.Measures.{sizes}
use Rattle.csp_value.proofs.Walking.{Left}
use Rattle.csp_value.proofs.+room.Given as goal

abbrev pub invariant-limits::room_left_by-loop-value : goal.invariant-limits::room_left_by-loop-value
invariant-limits::room_left_by-loop-value g l = Left sizes l.values l.room l.value-index l.rest
