-- Operators of two sides, and processes taken apart by them.
use Rattle.std.specs.Prelude.{Option, Some, None}
use Rattle.std.specs.Option.{option_map}
use Rattle.theory_syntax.specs.Process.{EventSet, Process, ExternalChoice, InternalChoice, Sequential, Interleaving, Interrupt, GeneralisedParallel, AlphabetisedParallel, SlidingChoice}
use Rattle.theory_syntax.specs.Operators.{binary_process}
use Rattle.theory_syntax.specs.declared.process_operator.ProcessOperator.{ProcessOperator}
use Rattle.theory_syntax.specs.declared.process_operator.ProcessOperator.TheVariants as binary
use Rattle.csp_events.specs.Events.{event_set_of}
use Rattle.csp_term.specs.Term.{process_of}
use Rattle.csp_moves.specs.declared.operator.Joint.{Joint}
use Rattle.csp_moves.specs.declared.operator.Joint.TheVariants as variant
use Rattle.csp_moves.specs.declared.operator.Sides.{Sides}

-- an operator of two sides, without them
pub data TwoSided : Type 0 where
  OfBinary : (operator : ProcessOperator) → TwoSided
  OfGeneralised : (shared : EventSet) → TwoSided
  OfAlphabetised : (own other : EventSet) → TwoSided
  OfSliding : TwoSided

abbrev pub joined : TwoSided → Process → Process → Process
joined (OfBinary op) p q = binary_process op p q
joined (OfGeneralised a) p q = GeneralisedParallel p a q
joined (OfAlphabetised a b) p q = AlphabetisedParallel p a b q
joined OfSliding p q = SlidingChoice p q

-- the operator and the sides of a process that has two
abbrev pub taken_apart : Process → Option (TwoSided × Process × Process)
taken_apart (ExternalChoice p q) = Some (OfBinary binary.ExternalChoice, p, q)
taken_apart (InternalChoice p q) = Some (OfBinary binary.InternalChoice, p, q)
taken_apart (Sequential p q) = Some (OfBinary binary.Sequential, p, q)
taken_apart (Interleaving p q) = Some (OfBinary binary.Interleaving, p, q)
taken_apart (Interrupt p q) = Some (OfBinary binary.Interrupt, p, q)
taken_apart (GeneralisedParallel p a q) = Some (OfGeneralised a, p, q)
taken_apart (AlphabetisedParallel p a b q) = Some (OfAlphabetised a b, p, q)
taken_apart (SlidingChoice p q) = Some (OfSliding, p, q)
taken_apart _ = None

-- what the code has of them
abbrev pub joint_of : {A : Type 0} → Joint A → TwoSided
joint_of (variant.Binary op) = OfBinary op
joint_of (variant.Generalised a) = OfGeneralised (event_set_of a.now)
joint_of (variant.Alphabetised a b) = OfAlphabetised (event_set_of a.now) (event_set_of b.now)
joint_of variant.Sliding = OfSliding

abbrev pub sides_found : {A : Type 0} → Option (Sides A) → Option (TwoSided × Process × Process)
sides_found found = option_map (λ s. (joint_of s.operator, process_of s.left.now, process_of s.right.now)) found

-- the processes of the sides
abbrev pub sides_split : {A : Type 0} → Option (Sides A) → Option (Process × Process)
sides_split found = option_map (λ s. (process_of s.left.now, process_of s.right.now)) found
