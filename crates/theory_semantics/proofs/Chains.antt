-- The first cause of a chain is that of its processes.
use Rattle.std.proofs.Common.{◌≡◌, List, [], ◌∷◌, refl, ◌∙◌, ap, Option, Some, None}
use Rattle.std.specs.Option.{option_or}
use Rattle.theory_semantics.specs.Meaning.Evaluation.{Cause}
use Rattle.theory_syntax.specs.Process.{Process, Stop, Skip, ExternalChoice, InternalChoice, Interleaving, Script}
use Rattle.theory_semantics.specs.Meaning.Faults.{first_cause, in_internal_chain, cause_in}
use Rattle.theory_semantics.specs.Meaning.Transitions.{left_grouped, chain}
use Rattle.theory_semantics.proofs.Causes.{external_cause, interleaving_cause}

or_none : (c : Option Cause) → c ≡ option_or c None
or_none None = refl
or_none (Some d) = refl

-- the first of three causes, grouped either way
pub or_assoc : (a b c : Option Cause) → option_or (option_or a b) c ≡ option_or a (option_or b c)
or_assoc None b c = refl
or_assoc (Some d) b c = refl

module _ (s : Script) (op : Process → Process → Process) (two : (p q : Process) → cause_in s (op p q) ≡ option_or (cause_in s p) (cause_in s q)) where
  grouped_cause : (p : Process) (qs : List Process) → cause_in s (left_grouped op p qs) ≡ option_or (cause_in s p) (first_cause (cause_in s) qs)
  grouped_cause p [] = or_none (cause_in s p)
  grouped_cause p (q ∷ qs) =
      grouped_cause (op p q) qs ∙ (ap (λ c. option_or c (first_cause (cause_in s) qs)) (two p q) ∙ or_assoc (cause_in s p) (cause_in s q) (first_cause (cause_in s) qs))

  chain_cause : (empty : Process) → cause_in s empty ≡ None → (ps : List Process) → cause_in s (chain op empty ps) ≡ first_cause (cause_in s) ps
  chain_cause empty none [] = none
  chain_cause empty none (p ∷ ps) = grouped_cause p ps

pub external_chain_cause : (s : Script) (ps : List Process) → cause_in s (chain ExternalChoice Stop ps) ≡ first_cause (cause_in s) ps
external_chain_cause s ps = chain_cause s ExternalChoice (external_cause s) Stop refl ps

pub interleaving_chain_cause : (s : Script) (ps : List Process) → cause_in s (chain Interleaving Skip ps) ≡ first_cause (cause_in s) ps
interleaving_chain_cause s ps = chain_cause s Interleaving (interleaving_cause s) Skip refl ps

none_internal : (s : Script) (p q : Process) (qs : List Process) → cause_in s (left_grouped InternalChoice (InternalChoice p q) qs) ≡ None
none_internal s p q [] = refl
none_internal s p q (r ∷ qs) = none_internal s (InternalChoice p q) r qs

pub internal_chain_cause : (s : Script) (p : Process) (ps : List Process) → cause_in s (chain InternalChoice Stop (p ∷ ps)) ≡ in_internal_chain (cause_in s) (p ∷ ps)
internal_chain_cause s p [] = refl
internal_chain_cause s p (q ∷ qs) = none_internal s p q qs
