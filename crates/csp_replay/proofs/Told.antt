-- The states that are told are terms of the script.
use Rattle.std.proofs.Common.{ℕ, List, Vec, Contains, take}
use Rattle.theory_syntax.specs.Value.{Action}
use Rattle.theory_syntax.specs.Process.{Process, Script}
use Rattle.theory_semantics.specs.Kinds.Scripts.{IsTermOf}
use Rattle.theory_semantics.specs.Meaning.Runs.{trace}
use Rattle.theory_semantics.proofs.Rising.{stands_from_Contains}
use Rattle.theory_runs.specs.Layers.{AreTermsOf}
use Rattle.theory_runs.proofs.Closing.{after_closed}
use Rattle.csp_term.specs.declared.term.Term.{Term}
use Rattle.csp_replay.specs.Along.{TellsStates, states_listed}
use Rattle.csp_replay.specs.declared.along.Along.TheVariants as variant

pub told_closed : {A : Type 0} (script : Script) (t : Process) (path : List Action) (n : ℕ) (all : Vec (Vec (Term A) A) A) (states : List Process) → TellsStates script t path n (variant.States all) → IsTermOf script t →
    Contains (states_listed all.items) states → AreTermsOf script states
told_closed script t path n all states told closed c =
    let at = stands_from_Contains (states_listed all.items) states c in
    after_closed script t (trace (take at.0 path)) states (told.0.each at.0 states at.1) closed
