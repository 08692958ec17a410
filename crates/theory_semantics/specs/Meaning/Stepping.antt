-- The rule steps of a term computed as a list, rule by rule. They are exactly those of `RuleStep`.
use Rattle.std.specs.Prelude.{ℕ, zero, suc, Bool, true, false, not, ◌&&◌, cond, List, [], ◌∷◌, ◌++◌, Result, Ok, Err}
use Rattle.theory_syntax.specs.Value.{Value, Event, event_eq, Action, Tau, Tick, Ev}
use Rattle.theory_semantics.specs.Meaning.Evaluation.{Cause}
use Rattle.theory_syntax.specs.Process.{Process, Stop, Skip, Omega, Call, Prefix, Guard, If, ExternalChoice, InternalChoice, Sequential, Interleaving, Interrupt, GeneralisedParallel, AlphabetisedParallel, Hiding, Renaming, ReplicatedExternalChoice, ReplicatedInternalChoice, ReplicatedInterleaving, SlidingChoice, Script}
use Rattle.theory_semantics.specs.Meaning.Substitution.{put}
use Rattle.theory_semantics.specs.Meaning.Events.{Communication, prefix_communications, condition, elements, has_event, images, called, instances}
use Rattle.theory_semantics.specs.Meaning.Faults.{height}
use Rattle.theory_semantics.specs.Meaning.Unfolding.{settled}

abbrev pub Steps : Type 0
Steps = List (Action × Process)

-- what f makes of each step, in turn
abbrev pub each_step : (Action → Process → Steps) → Steps → Steps
each_step f [] = []
each_step f (s ∷ ss) = f s.0 s.1 ++ each_step f ss

-- the steps of a prefix, by its communications
abbrev pub communication_steps : ℕ → Process → List Communication → Steps
communication_steps c p [] = []
communication_steps c p (m ∷ ms) = (Ev (record { channel = c; fields = m.values }), put m.bindings p) ∷ communication_steps c p ms

abbrev pub prefix_steps : ℕ → Process → Result (List Communication) Cause → Steps
prefix_steps c p (Ok ms) = communication_steps c p ms
prefix_steps c p (Err e) = []

abbrev pub call_steps : Result Process Cause → Steps
call_steps (Ok t) = (Tau, t) ∷ []
call_steps (Err e) = []

-- the same steps, to settled terms
abbrev pub settled_steps : Script → Steps → Steps
settled_steps script [] = []
settled_steps script (s ∷ ss) = (s.0, settled script s.1) ∷ settled_steps script ss

-- the steps of the branch that a condition picks
abbrev pub branch_steps : Result Bool Cause → Steps → Steps → Steps
branch_steps (Ok true) first second = first
branch_steps (Ok false) first second = second
branch_steps (Err e) first second = []

-- tau stays under the operator, and a visible action leaves it
abbrev pub leave : (Process → Process) → Action → Process → Steps
leave under Tau t = (Tau, under t) ∷ []
leave under Tick t = (Tick, t) ∷ []
leave under (Ev e) t = (Ev e, t) ∷ []

-- what a side does alone: it stays under the operator, and tick becomes what is given
abbrev pub stay : (Event → Bool) → (Process → Process) → Steps → Action → Process → Steps
stay free under ended Tau t = (Tau, under t) ∷ []
stay free under ended Tick t = ended
stay free under ended (Ev e) t = cond (free e) ((Ev e, under t) ∷ []) []

-- what two sides do together
abbrev pub meet : (Event → Bool) → (Process → Process → Process) → Action → Process → Action → Process → Steps
meet shared under (Ev e) t (Ev f) u = cond (event_eq e f && shared e) ((Ev e, under t u) ∷ []) []
meet shared under _ t _ u = []

abbrev pub both_ended : Process → Process → Steps
both_ended Omega Omega = (Tick, Omega) ∷ []
both_ended _ _ = []

-- the steps of two sides, by what each may do alone and what they share
abbrev pub parallel_steps : (Event → Bool) → (Event → Bool) → (Event → Bool) → (Process → Process → Process) → Process → Steps → Process → Steps → Steps
parallel_steps left_free right_free shared under p ps q qs =
    each_step (stay left_free (λ t. under t q) ((Tau, under Omega q) ∷ [])) ps ++
    (each_step (stay right_free (λ u. under p u) ((Tau, under p Omega) ∷ [])) qs ++
    (each_step (λ x t. each_step (meet shared under x t) qs) ps ++ both_ended p q))

abbrev pub always : Event → Bool
always e = true

abbrev pub never : Event → Bool
never e = false

abbrev pub external_steps : Process → Steps → Process → Steps → Steps
external_steps p ps q qs = each_step (leave (λ t. ExternalChoice t q)) ps ++ each_step (leave (λ u. ExternalChoice p u)) qs

abbrev pub internal_steps : Script → Process → Steps → Process → Steps → Steps
internal_steps script p ps q qs = (Tau, settled script p) ∷ (Tau, settled script q) ∷ []

abbrev pub interleaving_steps : Process → Steps → Process → Steps → Steps
interleaving_steps = parallel_steps always always never Interleaving

abbrev pub hide : (Event → Bool) → (Process → Process) → Action → Process → Steps
hide hidden under Tau t = (Tau, under t) ∷ []
hide hidden under Tick t = (Tick, Omega) ∷ []
hide hidden under (Ev e) t = cond (hidden e) ((Tau, under t) ∷ []) ((Ev e, under t) ∷ [])

abbrev pub image_steps : Process → List Event → Steps
image_steps t [] = []
image_steps t (f ∷ fs) = (Ev f, t) ∷ image_steps t fs

abbrev pub rename : (Event → List Event) → (Process → Process) → Action → Process → Steps
rename images under Tau t = (Tau, under t) ∷ []
rename images under Tick t = (Tick, Omega) ∷ []
rename images under (Ev e) t = image_steps (under t) (images e)

-- the steps of a chain that is grouped to the left, by its processes and their steps
abbrev pub grouped_steps : (Process → Process → Process) → (Process → Steps → Process → Steps → Steps) → Process → Steps → List (Process × Steps) → Steps
grouped_steps op of_two p ps [] = ps
grouped_steps op of_two p ps (q ∷ qs) = grouped_steps op of_two (op p q.0) (of_two p ps q.0 q.1) qs

abbrev pub chain_steps : (Process → Process → Process) → (Process → Steps → Process → Steps → Steps) → Steps → List (Process × Steps) → Steps
chain_steps op of_two empty [] = empty
chain_steps op of_two empty (q ∷ qs) = grouped_steps op of_two q.0 q.1 qs

-- each process with its steps
abbrev pub with_steps : (Process → Steps) → List Process → List (Process × Steps)
with_steps steps [] = []
with_steps steps (p ∷ ps) = (p, steps p) ∷ with_steps steps ps

abbrev pub over : Result (List Value) Cause → (List Value → Steps) → Steps
over (Ok vs) f = f vs
over (Err e) f = []

-- the rule steps, for processes that stand at most n deep in one another
abbrev pub steps_within : ℕ → Script → Process → Steps
steps_within zero script p = []
steps_within (suc n) script Stop = []
steps_within (suc n) script Skip = (Tick, Omega) ∷ []
steps_within (suc n) script Omega = []
steps_within (suc n) script (Call k es) = settled_steps script (call_steps (called script k es))
steps_within (suc n) script (Prefix c fs p) = settled_steps script (prefix_steps c p (prefix_communications script c fs))
steps_within (suc n) script (Guard e p) = branch_steps (condition script.types e) (steps_within n script p) []
steps_within (suc n) script (If e p q) = branch_steps (condition script.types e) (steps_within n script p) (steps_within n script q)
steps_within (suc n) script (ExternalChoice p q) = external_steps p (steps_within n script p) q (steps_within n script q)
steps_within (suc n) script (InternalChoice p q) = (Tau, settled script p) ∷ (Tau, settled script q) ∷ []
steps_within (suc n) script (Sequential p q) = each_step (stay always (λ t. Sequential t q) ((Tau, settled script q) ∷ [])) (steps_within n script p)
steps_within (suc n) script (Interleaving p q) = interleaving_steps p (steps_within n script p) q (steps_within n script q)
steps_within (suc n) script (Interrupt p q) =
    each_step (stay always (λ t. Interrupt t q) ((Tick, Omega) ∷ [])) (steps_within n script p) ++ each_step (leave (λ u. Interrupt p u)) (steps_within n script q)
steps_within (suc n) script (GeneralisedParallel p a q) =
    parallel_steps (λ e. not (has_event script a e)) (λ e. not (has_event script a e)) (has_event script a) (λ t u. GeneralisedParallel t a u) p (steps_within n script p) q (steps_within n script q)
steps_within (suc n) script (AlphabetisedParallel p a b q) =
    parallel_steps (λ e. has_event script a e && not (has_event script b e)) (λ e. has_event script b e && not (has_event script a e)) (λ e. has_event script a e && has_event script b e)
    (λ t u. AlphabetisedParallel t a b u) p (steps_within n script p) q (steps_within n script q)
steps_within (suc n) script (Hiding p a) = each_step (hide (has_event script a) (λ t. Hiding t a)) (steps_within n script p)
steps_within (suc n) script (Renaming p rs) = each_step (rename (images script rs) (λ t. Renaming t rs)) (steps_within n script p)
steps_within (suc n) script (ReplicatedExternalChoice x e p) =
    over (elements script.types e) (λ vs. chain_steps ExternalChoice external_steps [] (with_steps (steps_within n script) (instances x p vs)))
steps_within (suc n) script (ReplicatedInternalChoice x e p) =
    over (elements script.types e) (λ vs. chain_steps InternalChoice (internal_steps script) [] (with_steps (steps_within n script) (instances x p vs)))
steps_within (suc n) script (ReplicatedInterleaving x e p) =
    over (elements script.types e) (λ vs. chain_steps Interleaving interleaving_steps ((Tick, Omega) ∷ []) (with_steps (steps_within n script) (instances x p vs)))
steps_within (suc n) script (SlidingChoice p q) = each_step (leave (λ t. SlidingChoice t q)) (steps_within n script p) ++ (Tau, settled script q) ∷ []

-- the rule steps of a term
abbrev pub rule_steps : Script → Process → Steps
rule_steps script p = steps_within (height p) script p
