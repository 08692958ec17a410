-- What is offered.
use Rattle.std.proofs.Common.{◌≡◌, ℕ, zero, suc, List, [], ◌∷◌, ◌++◌, map, slice_get, Option, Some, None, Contains, IsTrue, refl, sym, ap, subst}
use Rattle.theory_syntax.specs.Value.{Action}
use Rattle.theory_syntax.specs.Process.{Process, Script}
use Rattle.theory_semantics.specs.Meaning.Faults.{cause_in}
use Rattle.theory_semantics.specs.Meaning.Limits.{fits}
use Rattle.theory_semantics.specs.Meaning.Expansions.{IsFired}
use Rattle.theory_semantics.specs.Meaning.Transitions.{RuleStep, IsNotStuck}
use Rattle.theory_semantics.proofs.Rising.{Contains-from_stands}
use Rattle.theory_origins.specs.Origin.{Origin, ComesFrom}
use Rattle.theory_origins.specs.Telling.{Tells}
use Rattle.theory_graph.specs.Graphs.{AreAllSteps}
use Rattle.theory_walk.specs.Laws.{HaveOrigins, OfferSteps}
use Rattle.theory_walk.specs.Moves.{Move, AreMoves, AreTold, step_in}

pub offer_steps : (script : Script) (t : Process) (moves : List Move) → AreMoves script t moves → OfferSteps script t moves
offer_steps script t moves are x u = (λ step. (are.steps.each x u).0 step.1, λ c. (are.steps.not_stuck, (are.steps.each x u).1 c))

step_at : (moves : List Move) (i : ℕ) (m : Move) → slice_get moves i ≡ Some m → slice_get (map step_in moves) i ≡ Some (step_in m)
step_at [] i m at = absurd (cc at)
step_at (k ∷ moves) zero m at = let f : Some k ≡ Some m = at in let e : k ≡ m = cc f in ap (λ n. Some (step_in n)) e
step_at (k ∷ moves) (suc i) m at = step_at moves i m at

told_at : (script : Script) (t : Process) (moves : List Move) (i : ℕ) (m : Move) → AreTold script t moves → slice_get moves i ≡ Some m → Tells script t m.action m.target m.origin
told_at script t [] i m told at = absurd (cc at)
told_at script t (k ∷ moves) zero m told at = let f : Some k ≡ Some m = at in let e : k ≡ m = cc f in subst (λ (n : Move). Tells script t n.action n.target n.origin) e told.0
told_at script t (k ∷ moves) (suc i) m told at = told_at script t moves i m told.1 at

-- a move is a step
pub step_of_move : (script : Script) (t : Process) (moves : List Move) → AreMoves script t moves → (i : ℕ) (m : Move) → slice_get moves i ≡ Some m → RuleStep script t m.action m.target
step_of_move script t moves are i m at = (are.steps.each m.action m.target).1 (Contains-from_stands (map step_in moves) (step_in m) (i, step_at moves i m at))

-- of a step of a state that is not stuck the origin is told
some_origin : (script : Script) (t : Process) (x : Action) (u : Process) → IsNotStuck script t → RuleStep script t x u → (o : Option Origin) → Tells script t x u o →
    (from : Origin) × (o ≡ Some from) × ComesFrom script t x u from
some_origin script t x u free step (Some o) told = (o, refl, told)
some_origin script t x u free step None told = absurd (told free.no_cause (free.targets x u step) step)

pub have_origins : (script : Script) (t : Process) (moves : List Move) → AreMoves script t moves → HaveOrigins script t moves
have_origins script t moves are i m at =
    some_origin script t m.action m.target are.steps.not_stuck (step_of_move script t moves are i m at) m.origin (told_at script t moves i m are.told at)

-- what a firing shows is offered, where it is told
pub moves_of_fired : (script : Script) (t : Process) (moves : List Move) (steps : List (Action × Process)) (offers : List (List Action)) → IsFired script t steps offers → map step_in moves ≡ steps →
    AreTold script t moves → AreMoves script t moves
moves_of_fired script t moves steps offers fired same told =
    let all : AreAllSteps script t steps = record { not_stuck = fired.not_stuck; each = fired.each_step; rise = fired.steps_rise } in
    record { steps = subst (AreAllSteps script t) (sym same) all; told = told }

pub told_more : (script : Script) (t : Process) (moves : List Move) (m : Move) → AreTold script t moves → Tells script t m.action m.target m.origin → AreTold script t (moves ++ m ∷ [])
told_more script t [] m told one = (one, tt)
told_more script t (k ∷ moves) m told one = (told.0, told_more script t moves m told.1 one)
