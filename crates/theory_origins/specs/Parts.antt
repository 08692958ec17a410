-- The parts of a process that stand beside one another, below the operators that stay: parallel ones, hiding and renaming.
use Rattle.std.specs.Prelude.{◌≡◌, ℕ, List, [], ◌∷◌, ◌++◌, map, Contains, Option, Some, None, Result, Ok, Err}
use Rattle.theory_syntax.specs.Value.{Value, Tau}
use Rattle.theory_syntax.specs.Process.{Process, Stop, Skip, Guard, If, ExternalChoice, InternalChoice, Sequential, Interleaving, Interrupt, GeneralisedParallel, AlphabetisedParallel, Hiding, Renaming, ReplicatedExternalChoice, ReplicatedInternalChoice, ReplicatedInterleaving, SlidingChoice, Script}
use Rattle.theory_semantics.specs.Meaning.Evaluation.{Cause}
use Rattle.theory_semantics.specs.Meaning.Events.{elements, instances}
use Rattle.theory_semantics.specs.Meaning.Transitions.{RuleStep, chain}
use Rattle.theory_origins.specs.Origin.{Side, Left, Right}

-- the two sides, or the branches of a condition
abbrev pub sides : Process → Option (Process × Process)
sides (If e p q) = Some (p, q)
sides (ExternalChoice p q) = Some (p, q)
sides (InternalChoice p q) = Some (p, q)
sides (Sequential p q) = Some (p, q)
sides (Interleaving p q) = Some (p, q)
sides (Interrupt p q) = Some (p, q)
sides (GeneralisedParallel p a q) = Some (p, q)
sides (AlphabetisedParallel p a b q) = Some (p, q)
sides (SlidingChoice p q) = Some (p, q)
sides p = None

-- the chain of instances, where the set of a replicated form has a value
abbrev pub chain_for : (Process → Process → Process) → Process → ℕ → Process → Result (List Value) Cause → Option Process
chain_for op empty n p (Ok vs) = Some (chain op empty (instances n p vs))
chain_for op empty n p (Err c) = None

-- what stands under a guard, a hiding or a renaming, and the chain of a replicated form's instances
abbrev pub body : Script → Process → Option Process
body script (Guard e p) = Some p
body script (Hiding p a) = Some p
body script (Renaming p rs) = Some p
body script (ReplicatedExternalChoice n e p) = chain_for ExternalChoice Stop n p (elements script.types e)
body script (ReplicatedInternalChoice n e p) = chain_for InternalChoice Stop n p (elements script.types e)
body script (ReplicatedInterleaving n e p) = chain_for Interleaving Skip n p (elements script.types e)
body script p = None

-- the part that stands at the end of the way down these sides, through bodies and chains
pub data IsPartAt (script : Script) : Process → List Side → Process → Type 0 where
  itself : {p : Process} → IsPartAt script p [] p
  inside : {p part : Process} {way : List Side} (b : Process) → body script p ≡ Some b → IsPartAt script b way part → IsPartAt script p way part
  on_left : {p part : Process} {way : List Side} (l r : Process) → sides p ≡ Some (l, r) → IsPartAt script l way part → IsPartAt script p (Left ∷ way) part
  on_right : {p part : Process} {way : List Side} (l r : Process) → sides p ≡ Some (l, r) → IsPartAt script r way part → IsPartAt script p (Right ∷ way) part

-- ---- those that stand beside one another

-- a part, with the way down to it
pub record Placed : Type 0 where
  pub way : List Side
  pub process : Process

abbrev pub placed_further : Side → Placed → Placed
placed_further side d = record { way = side ∷ d.way; process = d.process }

abbrev pub placed_on : Side → List Placed → List Placed
placed_on side ds = map (placed_further side) ds

-- from the left to the right
abbrev pub placed_parts : Process → List Placed
placed_parts (Interleaving p q) = placed_on Left (placed_parts p) ++ placed_on Right (placed_parts q)
placed_parts (GeneralisedParallel p a q) = placed_on Left (placed_parts p) ++ placed_on Right (placed_parts q)
placed_parts (AlphabetisedParallel p a b q) = placed_on Left (placed_parts p) ++ placed_on Right (placed_parts q)
placed_parts (Hiding p a) = placed_parts p
placed_parts (Renaming p rs) = placed_parts p
placed_parts p = record { way = []; process = p } ∷ []

-- no step by tau
abbrev pub HasNoTau : Script → Process → Type 0
HasNoTau script p = (t : Process) → ¬ RuleStep script p Tau t

-- each part stands at the end of its way
abbrev pub ArePlaced : Script → Process → List Placed → Type 0
ArePlaced script p ds = (d : Placed) → Contains ds d → IsPartAt script p d.way d.process

-- where the process has no tau, none of the parts has one
abbrev pub HaveNoTau : Script → List Placed → Type 0
HaveNoTau script ds = (d : Placed) → Contains ds d → HasNoTau script d.process
