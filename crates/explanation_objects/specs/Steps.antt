-- Steps, as those of the code stand for them.
use Rattle.std.specs.Prelude.{ℕ, List, Option, map, option_map}
use Rattle.std.specs.Borrow.{Bor}
use Rattle.theory_syntax.specs.Value.{Tau}
use Rattle.theory_syntax.specs.Process.{Process}
use Rattle.theory_explanation.specs.Counterexamples.{Loop}
use Rattle.theory_objects.specs.Accounts.{Step, steps_to}
use Rattle.csp_value.specs.Action.{action_of}
use Rattle.csp_value.specs.declared.action.Action.{Action}
use Rattle.csp_term.specs.Term.{process_of}
use Rattle.csp_term.specs.declared.term.Term.{Term}
use Rattle.csp_moves.specs.Origin.{origin_of}
use Rattle.csp_moves.specs.declared.origin.Origin.{Origin}
use Rattle.counterexample.specs.Counterexample.{origins_listed}

abbrev pub step_of : {A : Type 0} → Action A → Term A → Option (Origin A) → Step
step_of x t o = record { action = action_of x; state = process_of t; origin = option_map origin_of o }

abbrev pub tau_to : {A : Type 0} → Term A → Option (Origin A) → Step
tau_to t o = record { action = Tau; state = process_of t; origin = option_map origin_of o }

abbrev pub steps_of : {A : Type 0} → List (Action A) → List (Term A) → List (Option (Origin A)) → List Step
steps_of path states origins = steps_to (map action_of path) (map process_of states) (origins_listed origins)

-- the loop through these states
abbrev pub loop_through : {A : Type 0} → List (Term A) → ℕ → List (Option (Origin A)) → Loop
loop_through states back origins = record { states = map process_of states; back = back; origins = origins_listed origins }

-- a state that is lent, if there is one
abbrev pub term_found : {A : Type 0} → Option (Bor (Term A)) → Option Process
term_found t = option_map (λ s. process_of s.now) t
