-- Parts of states that wait, at the ends of their ways.
use Rattle.std.specs.Prelude.{List, [], ◌∷◌, ◌++◌, map}
use Rattle.theory_syntax.specs.Process.{Process, Interleaving, GeneralisedParallel, AlphabetisedParallel, Hiding, Renaming, Script}
use Rattle.theory_origins.specs.Origin.{Side}
use Rattle.theory_origins.specs.Parts.{Placed}
use Rattle.theory_explanation.specs.Counterexamples.{AreWaiting, Waiting}
use Rattle.csp_term.specs.Term.{process_of}
use Rattle.counterexample.specs.declared.standing.Standing as code
use Rattle.counterexample.specs.declared.standing.Standing.TheVariants as variant

-- What of a process stands beside other parts: the sides of a parallel operator, or what is below hiding or renaming, or the
-- process is one part.
pub data Standing : Type 0 where
  Beside : (left right : Process) → Standing
  Inside : (body : Process) → Standing
  Alone : Standing

abbrev pub standing : Process → Standing
standing (Interleaving p q) = Beside p q
standing (GeneralisedParallel p a q) = Beside p q
standing (AlphabetisedParallel p a b q) = Beside p q
standing (Hiding p a) = Inside p
standing (Renaming p rs) = Inside p
standing p = Alone

-- what the code has of it
abbrev pub standing_of : {A : Type 0} → code.Standing A → Standing
standing_of (variant.Beside l r) = Beside (process_of l.now) (process_of r.now)
standing_of (variant.Inside b) = Inside (process_of b.now)
standing_of variant.Alone = Alone

-- below a way that leads down to a process
abbrev pub placed_behind : List Side → Placed → Placed
placed_behind way d = record { way = way ++ d.way; process = d.process }

abbrev pub all_placed_behind : List Side → List Placed → List Placed
all_placed_behind way ds = map (placed_behind way) ds

-- they tell of the process alone, at the end of the way
abbrev pub IsOnePart : Script → List Side → Process → List Waiting → Type 0
IsOnePart script way p ws = AreWaiting script (record { way = way; process = p } ∷ []) ws
