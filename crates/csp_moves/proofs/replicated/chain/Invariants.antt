-- The chain of the instances so far.
use Rattle.std.proofs.Common.{◌≡◌, ◌∷◌, [], take}
use Rattle.theory_semantics.specs.Meaning.Events.{instances}
use Rattle.theory_semantics.specs.Meaning.Substitution.{put}
use Rattle.theory_semantics.specs.Meaning.Transitions.{left_grouped}
use Rattle.csp_value.specs.Value.{value_of, values_of}
use Rattle.csp_term.specs.Term.{process_of}
use Rattle.csp_moves.specs.Chains.{linked}
use Rattle.csp_moves.proofs.replicated.chain.Given as goal

abbrev pub invariant-loop-value : goal.invariant-loop-value
invariant-loop-value g l =
    process_of l.chain ≡ left_grouped (linked l.process.operator) (put ((l.process.name.0, value_of l.first) ∷ []) (process_of l.process.body.now)) (instances l.process.name.0 (process_of l.process.body.now) (values_of (take l.value-index l.others)))
