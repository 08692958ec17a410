-- The chain of the instances of a replicated form.
use Rattle.std.specs.Prelude.{◌≡◌, ℕ, List, Option, Some, None, Result, Ok, Err}
use Rattle.std.specs.Option.{option_map}
use Rattle.theory_syntax.specs.Value.{Value, values_list}
use Rattle.theory_syntax.specs.Process.{ExternalChoice, InternalChoice, Interleaving, Process}
use Rattle.theory_syntax.specs.declared.process_operator.ReplicatedOperator.{ReplicatedOperator}
use Rattle.theory_syntax.specs.declared.process_operator.ReplicatedOperator.TheVariants as operator
use Rattle.theory_semantics.specs.Meaning.Evaluation.{Cause}
use Rattle.theory_semantics.specs.Meaning.Events.{instances}
use Rattle.csp_value.specs.Value.{members_of}
use Rattle.csp_value.specs.declared.set.SetOf.{SetOf}
use Rattle.csp_term.specs.Term.{process_of}
use Rattle.csp_term.specs.declared.term.Term.{Term}
use Rattle.theory_origins.specs.Telling.{instance_chain}

-- the operator between two instances
abbrev pub linked : ReplicatedOperator → Process → Process → Process
linked operator.ExternalChoice p q = ExternalChoice p q
linked operator.InternalChoice p q = InternalChoice p q
linked operator.Interleaving p q = Interleaving p q

-- the members of the set, if it is one
abbrev pub AreMembersIfAny : {A : Type 0} → Option (SetOf A) → Result (List Value) Cause → Type 0
AreMembersIfAny (Some set) r = r ≡ Ok (values_list (members_of set))
AreMembersIfAny None r = (c : Cause) × (r ≡ Err c)

-- the chain of the instances of the elements, if there are such
abbrev pub IsChainOf : ReplicatedOperator → ℕ → Process → Result (List Value) Cause → Option Process → Type 0
IsChainOf op n p r (Some t) = (vs : List Value) × (r ≡ Ok vs) × (t ≡ instance_chain op (instances n p vs))
IsChainOf op n p r None = (c : Cause) × (r ≡ Err c)

abbrev pub chain_process : {A : Type 0} → Option (Term A) → Option Process
chain_process t = option_map process_of t
