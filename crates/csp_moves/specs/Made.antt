-- What the ways of a step lend beside the step itself.
use Rattle.std.specs.Prelude.{◌≡◌, ⊤, ℕ, List, map, Option, Some, None}
use Rattle.std.specs.Option.{option_map}
use Rattle.theory_syntax.specs.Value.{Action, Event}
use Rattle.theory_syntax.specs.Expression.{Expression}
use Rattle.theory_syntax.specs.Process.{Omega, Process, ReplicatedExternalChoice, ReplicatedInterleaving, ReplicatedInternalChoice, Script}
use Rattle.theory_syntax.specs.declared.process_operator.ReplicatedOperator.{ReplicatedOperator}
use Rattle.theory_syntax.specs.declared.process_operator.ReplicatedOperator.TheVariants as operator
use Rattle.theory_semantics.specs.Meaning.Events.{elements}
use Rattle.csp_value.specs.Action.{event_of}
use Rattle.csp_expression.specs.Expression.{expression_of}
use Rattle.csp_term.specs.Term.{process_of}
use Rattle.csp_moves.specs.declared.made.Made.{Made}
use Rattle.csp_moves.specs.declared.replicated.Replicated.{Replicated}
use Rattle.csp_moves.specs.Bodies.{AreHiddenEvents, AreRenamedEvents}
use Rattle.csp_moves.specs.Frames.{OfHiding, OfRenaming, OneSided, unframed}
use Rattle.csp_moves.specs.Chains.{IsChainOf, chain_process}

-- the events by which the operator of one process does the step, if there is such
abbrev pub AreEventsOf : Script → Option (OneSided × Process) → Action → Process → List Event → Type 0
AreEventsOf s (Some (OfHiding a, p)) x t es = AreHiddenEvents s p a x t es
AreEventsOf s (Some (OfRenaming rs, p)) x t es = AreRenamedEvents s p rs x t es
AreEventsOf s None x t es = ⊤

-- a replicated form with its parts
abbrev pub Form : Type 0
Form = ReplicatedOperator × ℕ × Expression × Process

abbrev pub unreplicated : Process → Option Form
unreplicated (ReplicatedExternalChoice n e p) = Some (operator.ExternalChoice, n, e, p)
unreplicated (ReplicatedInternalChoice n e p) = Some (operator.InternalChoice, n, e, p)
unreplicated (ReplicatedInterleaving n e p) = Some (operator.Interleaving, n, e, p)
unreplicated _ = None

abbrev pub form_found : {A : Type 0} → Option (Replicated A) → Option Form
form_found found = option_map (λ r. (r.operator, r.name.0, expression_of r.set.now, process_of r.body.now)) found

-- the chain of the instances of the replicated form, if there is such
abbrev pub IsChainIn : Script → Option Form → Option Process → Type 0
IsChainIn s (Some (op, n, e, p)) c = IsChainOf op n p (elements s.types e) c
IsChainIn s None c = ⊤

-- what the ways of this step need
pub record IsMade {A : Type 0} (s : Script) (p : Process) (x : Action) (t : Process) (m : Made A) : Type 0 where
  pub ended : process_of m.ended ≡ Omega
  pub events : AreEventsOf s (unframed p) x t (map event_of m.events.items)
  pub chain : IsChainIn s (unreplicated p) (chain_process m.chain)
