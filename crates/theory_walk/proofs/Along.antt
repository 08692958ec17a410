-- Moves, one behind the other.
use Rattle.std.proofs.Common.{◌≡◌, ◌-◌, ◌+◌, ℕ, zero, suc, List, [], ◌∷◌, ◌++◌, length, map, take, refl, sym, ◌∙◌, ap, subst, arith, length-append, append-nil}
use Rattle.std.proofs.lemmas.List.{take_all, take-append-le}
use Rattle.std.specs.Bool.{⊤}
use Rattle.theory_syntax.specs.Process.{Process, Script}
use Rattle.theory_semantics.specs.Meaning.Transitions.{Step}
use Rattle.theory_semantics.specs.Meaning.Runs.{Run}
use Rattle.theory_origins.specs.Telling.{Tells}
use Rattle.theory_runs.specs.Runs.{IsReached}
use Rattle.theory_walk.specs.Moves.{Move}
use Rattle.theory_walk.specs.Trails.{AreTaken, Trail, back, behind, further}

-- a move that is a step, and is told
abbrev pub IsTaken : Script → Process → Move → Type 0
IsTaken script t m = Step script t m.action m.target × Tells script t m.action m.target m.origin

pub taken_more : (script : Script) (t : Process) (moves : List Move) (m : Move) → AreTaken script t moves → IsTaken script (behind t moves) m → AreTaken script t (moves ++ m ∷ [])
taken_more script t [] m taken is = (is.0, is.1, tt)
taken_more script t (k ∷ moves) m taken is = (taken.0, taken.1, taken_more script k.target moves m taken.2 is)

pub taken_front : (script : Script) (t : Process) (moves others : List Move) → AreTaken script t (moves ++ others) → AreTaken script t moves
taken_front script t [] others taken = tt
taken_front script t (k ∷ moves) others taken = (taken.0, taken.1, taken_front script k.target moves others taken.2)

pub taken_few : (script : Script) (t : Process) (moves : List Move) (n : ℕ) → AreTaken script t moves → AreTaken script t (take n moves)
taken_few script t moves zero taken = tt
taken_few script t [] (suc n) taken = tt
taken_few script t (k ∷ moves) (suc n) taken = (taken.0, taken.1, taken_few script k.target moves n taken.2)

-- one more leads to its target
pub behind_more : (t : Process) (moves : List Move) (m : Move) → behind t (moves ++ m ∷ []) ≡ m.target
behind_more t [] m = refl
behind_more t (k ∷ moves) m = behind_more k.target moves m

pub taken_run : (script : Script) (t : Process) (moves : List Move) → AreTaken script t moves → Run script t (map (λ m. m.action) moves) (behind t moves)
taken_run script t [] taken = refl
taken_run script t (k ∷ moves) taken = (k.target, taken.0, taken_run script k.target moves taken.2)

pub taken_reach : (script : Script) (t : Process) (moves : List Move) → AreTaken script t moves → IsReached script t (behind t moves)
taken_reach script t moves taken = (map (λ m. m.action) moves, taken_run script t moves taken)

-- all but the last one
pub all_before : {X : Type 0} (moves : List X) (m : X) → take (length (moves ++ m ∷ []) - 1) (moves ++ m ∷ []) ≡ moves
all_before moves m =
    let long = length-append moves (m ∷ []) in
    let few : length (moves ++ m ∷ []) - 1 ≡ length moves = omega (arith, long) in
    ap (λ n. take n (moves ++ m ∷ [])) few ∙ take-append-le (length moves) moves (m ∷ []) (omega arith) ∙ take_all (length moves) moves (omega arith)

pub undone : (trail : Trail) (m : Move) → back (further trail m) ≡ trail
undone trail m = ap (λ (moves : List Move). record { start = trail.start; taken = moves }) (all_before trail.taken m)
