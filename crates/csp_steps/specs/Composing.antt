-- What is answered of composed terms, by what is answered of their parts.
use Rattle.std.specs.Prelude.{◌≡◌, Bool, true, false, ◌&&◌, ◌↔◌, Contains, List, [], ◌∷◌, ◌++◌, cond, Option, Some, None, Result, Ok}
use Rattle.std.specs.Option.{option_or}
use Rattle.theory_syntax.specs.Value.{Action, Event, Tau, Tick, Ev, event_eq}
use Rattle.theory_syntax.specs.Process.{Process, Omega, ExternalChoice, Sequential, Interleaving, Interrupt, AlphabetisedParallel, GeneralisedParallel, Hiding, Renaming, SlidingChoice, Script}
use Rattle.theory_syntax.specs.Operators.{binary_process}
use Rattle.csp_value.specs.Action.{action_of}
use Rattle.theory_semantics.specs.Meaning.Faults.{cause_in}
use Rattle.theory_semantics.specs.Meaning.Stepping.{always, never}
use Rattle.csp_expression.specs.Agreement.{Agrees}
use Rattle.csp_events.specs.Events.{event_set_of, renaming_pairs_of}
use Rattle.csp_events.specs.declared.event_set.EventSet.{EventSet}
use Rattle.csp_steps.specs.declared.composition.Composition.{Composition}
use Rattle.csp_steps.specs.declared.composition.Composition.TheVariants as composition
use Rattle.csp_steps.specs.declared.composition.Frame.{Frame}
use Rattle.csp_steps.specs.declared.composition.Frame.TheVariants as frame
use Rattle.csp_steps.specs.declared.context.Context.{Context}
use Rattle.csp_steps.specs.declared.context.Hand.{Hand}
use Rattle.csp_steps.specs.declared.context.Hand.TheVariants as hand
use Rattle.csp_steps.specs.declared.rule_step.RuleStep.{RuleStep}
use Rattle.csp_steps.specs.declared.side.Side.{Side}
use Rattle.csp_term.specs.declared.script.ScriptParts.{ScriptParts}
use Rattle.csp_term.specs.Script.{script_of_parts}
use Rattle.csp_expression.specs.declared.no_value.NoValue.{NoValue}
use Rattle.csp_steps.specs.Answering.{Answered, IsAnswered, answers_of, target_of, within_limits}

-- ---- operators

-- two processes that do the events of the set together
abbrev pub generalised_parallel : {A : Type 0} → EventSet A → Process → Process → Process
generalised_parallel shared p q = GeneralisedParallel p (event_set_of shared) q

-- two processes, each with the set of its own events
abbrev pub alphabetised_parallel : {A : Type 0} → EventSet A → EventSet A → Process → Process → Process
alphabetised_parallel own other p q = AlphabetisedParallel p (event_set_of own) (event_set_of other) q

abbrev pub composition_of : {A : Type 0} → Composition A → Process → Process → Process
composition_of (composition.Operator op) p q = binary_process op p q
composition_of (composition.Generalised shared) p q = generalised_parallel shared p q
composition_of (composition.Alphabetised own other) p q = alphabetised_parallel own other p q
composition_of composition.Sliding p q = SlidingChoice p q

abbrev pub frame_of : {A : Type 0} → Frame A → Process → Process
frame_of (frame.Hiding hidden) p = Hiding p (event_set_of hidden)
frame_of (frame.Renaming pairs) p = Renaming p (renaming_pairs_of pairs.items)

-- what is answered of a target under an operator
abbrev pub under_limits : (Process → Process) → Option Process → Option Process
under_limits under (Some t) = within_limits (under t)
under_limits under None = None

-- what is answered of a target under the operator of one process
abbrev pub under_frame : {A : Type 0} → Frame A → Option Process → Option Process
under_frame f t = under_limits (frame_of f) t

-- what is answered of two targets under an operator
abbrev pub under_both : (Process → Process → Process) → Option Process → Option Process → Option Process
under_both under (Some t) o = under_limits (under t) o
under_both under None o = None

-- the side that moves with the other one
abbrev pub on_side : Hand → (Option Process → Option Process → Option Process) → Option Process → Option Process → Option Process
on_side hand.Left of_two other t = of_two t other
on_side hand.Right of_two other t = of_two other t

-- what is answered of a target in the place of the side that moves
abbrev pub around_of : {A : Type 0} → Context A → Option Process → Option Process
around_of c t = on_side c.hand (under_both (composition_of c.composition.now)) (target_of c.other.now) t

-- the same steps, in whatever order and however often
abbrev pub HaveSameSteps : List Answered → List Answered → Type 0
HaveSameSteps bs cs = (b : Answered) → Contains bs b ↔ Contains cs b

-- ---- what is made of each step

-- what f makes of what is answered of each step, in turn
abbrev pub each_answer : (Action → Option Process → List Answered) → List Answered → List Answered
each_answer f [] = []
each_answer f (b ∷ bs) = f b.0 b.1 ++ each_answer f bs

-- what f makes of what is answered of this step
abbrev pub one_answer : {A : Type 0} → (Action → Option Process → List Answered) → RuleStep A → List Answered
one_answer f step = f (action_of step.action) (target_of step.target)

-- tau stays under the operator, and a visible action leaves it
abbrev pub leave_answer : (Option Process → Option Process) → Action → Option Process → List Answered
leave_answer under Tau t = (Tau, under t) ∷ []
leave_answer under Tick t = (Tick, t) ∷ []
leave_answer under (Ev e) t = (Ev e, t) ∷ []

-- what a side does alone: it stays under the operator, and tick becomes what is given
abbrev pub stay_answer : (Event → Bool) → (Option Process → Option Process) → List Answered → Action → Option Process → List Answered
stay_answer free under ended Tau t = (Tau, under t) ∷ []
stay_answer free under ended Tick t = ended
stay_answer free under ended (Ev e) t = cond (free e) ((Ev e, under t) ∷ []) []

-- what a side does that is free to do all, and whose tick ends the operator
abbrev pub ending_answer : (Option Process → Option Process) → Action → Option Process → List Answered
ending_answer under x t = stay_answer always under ((Tick, Some Omega) ∷ []) x t

-- a tau to each of the two
abbrev pub tau_answers : Option Process → Option Process → List Answered
tau_answers t u = (Tau, t) ∷ (Tau, u) ∷ []

-- ---- sides

abbrev pub side_answers : {A : Type 0} → Side A → List Answered
side_answers side = answers_of side.steps

-- A process with its rule steps, or the first cause.
abbrev pub IsSideOf : {A : Type 0} → Script → Process → Result (Side A) NoValue → Type 0
IsSideOf s p x = Agrees (λ side q. (target_of side.process ≡ within_limits q) × IsAnswered s q (side_answers side)) (λ c q. cause_in s q ≡ Some c) x p

-- Two processes with their rule steps, or the first cause of both, the first one's before the second's.
abbrev pub AreSidesOf : {A : Type 0} → Script → Process → Process → Result (Side A × Side A) NoValue → Type 0
AreSidesOf s p q x = Agrees {M = Process × Process} (λ sides m. IsSideOf s m.0 (Ok sides.0) × IsSideOf s m.1 (Ok sides.1)) (λ c m. option_or (cause_in s m.0) (cause_in s m.1) ≡ Some c) x (p, q)

-- The same in a script that is given by its parts.
abbrev pub AreSidesIn : {A : Type 0} → ScriptParts A → Process → Process → Result (Side A × Side A) NoValue → Type 0
AreSidesIn script p q x = AreSidesOf (script_of_parts script) p q x

-- what is answered of two sides' processes under an operator
abbrev pub process_of_sides : {A : Type 0} → (Process → Process → Process) → Side A → Side A → Option Process
process_of_sides under left right = under_both under (target_of left.process) (target_of right.process)

-- what f makes of what is answered of two sides and of their steps
abbrev pub answers_of_sides : {A : Type 0} → (Option Process → List Answered → Option Process → List Answered → List Answered) → Side A → Side A → List Answered
answers_of_sides f left right = f (target_of left.process) (side_answers left) (target_of right.process) (side_answers right)

-- ---- operators of two processes, by what is answered of each of them and of its steps

-- a visible action of either leaves the operator
abbrev pub left_answers : (Process → Process → Process) → Option Process → List Answered → Option Process → List Answered → List Answered
left_answers under o bs r cs = each_answer (leave_answer (λ t. under_both under t r)) bs ++ each_answer (leave_answer (λ u. under_both under o u)) cs

abbrev pub external_answers : Option Process → List Answered → Option Process → List Answered → List Answered
external_answers o bs r cs = left_answers ExternalChoice o bs r cs

-- the first stays under the operator, and its tick leads to what follows
abbrev pub sequential_answers : List Answered → Option Process → Option Process → List Answered
sequential_answers bs r next = each_answer (stay_answer always (λ t. under_both Sequential t r) ((Tau, next) ∷ [])) bs

-- the first stays under the operator and ends it, and a visible action of the second leaves it
abbrev pub ended_or_left_answers : (Process → Process → Process) → Option Process → List Answered → Option Process → List Answered → List Answered
ended_or_left_answers under o bs r cs = each_answer (ending_answer (λ t. under_both under t r)) bs ++ each_answer (leave_answer (λ u. under_both under o u)) cs

abbrev pub interrupt_answers : Option Process → List Answered → Option Process → List Answered → List Answered
interrupt_answers o bs r cs = ended_or_left_answers Interrupt o bs r cs

-- a visible action of the first leaves the operator, and a tau leads away
abbrev pub left_or_away_answers : (Process → Process → Process) → List Answered → Option Process → Option Process → List Answered
left_or_away_answers under bs r away = each_answer (leave_answer (λ t. under_both under t r)) bs ++ (Tau, away) ∷ []

abbrev pub sliding_answers : List Answered → Option Process → Option Process → List Answered
sliding_answers bs r away = left_or_away_answers SlidingChoice bs r away

abbrev pub meet_answer : (Event → Bool) → (Process → Process → Process) → Action → Option Process → Action → Option Process → List Answered
meet_answer shared under (Ev e) t (Ev f) u = cond (event_eq e f && shared e) ((Ev e, under_both under t u) ∷ []) []
meet_answer shared under _ t _ u = []

-- whether a process is known to have ended
abbrev pub is_omega : Process → Bool
is_omega Omega = true
is_omega _ = false

abbrev pub has_ended : Option Process → Bool
has_ended (Some p) = is_omega p
has_ended None = false

-- all ticks where both have ended
abbrev pub ended_answer : Option Process → Option Process → List Answered
ended_answer o r = cond (has_ended o && has_ended r) ((Tick, Some Omega) ∷ []) []

abbrev pub parallel_answers : (Event → Bool) → (Event → Bool) → (Event → Bool) → (Process → Process → Process) → Option Process → List Answered → Option Process → List Answered → List Answered
parallel_answers left_free right_free shared under o bs r cs =
    each_answer (stay_answer left_free (λ t. under_both under t r) ((Tau, under_both under (Some Omega) r) ∷ [])) bs ++
    (each_answer (stay_answer right_free (λ u. under_both under o u) ((Tau, under_both under o (Some Omega)) ∷ [])) cs ++
    (each_answer (λ x t. each_answer (meet_answer shared under x t) cs) bs ++ ended_answer o r))

-- each side does all of its events alone, since the sides share none
abbrev pub interleaving_answers : Option Process → List Answered → Option Process → List Answered → List Answered
interleaving_answers o bs r cs = parallel_answers always always never Interleaving o bs r cs

-- ---- operators of one process

abbrev pub hide_answer : (Event → Bool) → (Option Process → Option Process) → Action → Option Process → List Answered
hide_answer hidden under Tau t = (Tau, under t) ∷ []
hide_answer hidden under Tick t = (Tick, Some Omega) ∷ []
hide_answer hidden under (Ev e) t = cond (hidden e) ((Tau, under t) ∷ []) ((Ev e, under t) ∷ [])

-- the same target for each image
abbrev pub image_answers : Option Process → List Event → List Answered
image_answers t [] = []
image_answers t (f ∷ fs) = (Ev f, t) ∷ image_answers t fs

abbrev pub rename_answer : (Event → List Event) → (Option Process → Option Process) → Action → Option Process → List Answered
rename_answer images under Tau t = (Tau, under t) ∷ []
rename_answer images under Tick t = (Tick, Some Omega) ∷ []
rename_answer images under (Ev e) t = image_answers (under t) (images e)
