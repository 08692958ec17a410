-- Names that are unfolded at once leave a closed term closed.
use Rattle.std.proofs.Common.{◌≡◌, ℕ, zero, suc, Bool, true, false, cond, List, [], ◌∷◌, Option, Some, None, Result, Ok, Err, refl}
use Rattle.std.specs.Prelude.{⊤}
use Rattle.std.specs.Ordering.{is_eq}
use Rattle.theory_syntax.specs.Value.{Value}
use Rattle.theory_syntax.specs.Expression.{Expression}
use Rattle.theory_syntax.specs.Order.{process_cmp}
use Rattle.theory_syntax.specs.Process.{Process, Stop, Skip, Call, Guard, If, ExternalChoice, Sequential, Interleaving, Interrupt, GeneralisedParallel, AlphabetisedParallel, Hiding, Renaming, ReplicatedExternalChoice, ReplicatedInterleaving, SlidingChoice, Unfolding, ByTau, AtOnce, Script}
use Rattle.theory_semantics.specs.Meaning.Evaluation.{Cause}
use Rattle.theory_semantics.specs.Meaning.Limits.{fits}
use Rattle.theory_semantics.specs.Meaning.Events.{condition, elements, called, instances}
use Rattle.theory_semantics.specs.Meaning.Chains.{left_grouped, chain}
use Rattle.theory_semantics.specs.Meaning.Unfolding.{most_unfoldings, is_no_larger, in_place_of, body_or, unless_called, changed_or, where_true, picked, chained, stands_for, unfolded_or, unfold_calls, settled_within, settled_by, settled}
use Rattle.theory_semantics.specs.Kinds.Kind.{Kind, SetKind, Kinds, InTurn, Each}
use Rattle.theory_semantics.specs.Kinds.Expressions.{HasKind}
use Rattle.theory_semantics.specs.Kinds.Values.{AreMembersOf}
use Rattle.theory_semantics.specs.Kinds.Processes.{IsWellKinded, IsClosedTerm}
use Rattle.theory_semantics.specs.Kinds.Scripts.{IsWellKindedEquation, SetsHaveKinds}
use Rattle.theory_semantics.proofs.Misfits.{Gives, gives_value}
use Rattle.theory_semantics.proofs.KindedTerms.{elements_kind, instances_closed, called_closed}

-- what holds of a process, if there is one
abbrev OfSome : (Process → Type 0) → Option Process → Type 0
OfSome P (Some q) = P q
OfSome P None = ⊤

either_one : (P : Process → Type 0) (b : Bool) (p q : Process) → P p → P q → P (cond b p q)
either_one P true p q h k = h
either_one P false p q h k = k

true_closed : (P : Process → Type 0) (r : Result Bool Cause) (p : Process) → P p → OfSome P (where_true r p)
true_closed P (Ok true) p h = h
true_closed P (Ok false) p h = tt
true_closed P (Err c) p h = tt

picked_closed : (P : Process → Type 0) (r : Result Bool Cause) (p q : Process) → P p → P q → OfSome P (picked r p q)
picked_closed P (Ok true) p q h k = h
picked_closed P (Ok false) p q h k = k
picked_closed P (Err c) p q h k = tt

chained_closed : (P : Process → Type 0) (op : Process → Process → Process) (empty : Process) (n : ℕ) (p : Process) (r : Result (List Value) Cause) →
    ((vs : List Value) → r ≡ Ok vs → P (chain op empty (instances n p vs))) → OfSome P (chained op empty n p r)
chained_closed P op empty n p (Ok vs) h = h vs refl
chained_closed P op empty n p (Err c) h = tt

module _ (script : Script) (kinds : Kinds) (sets : SetsHaveKinds script kinds) (equations : InTurn (IsWellKindedEquation script kinds) script.equations kinds.parameters) where
  grouped_closed : (op : Process → Process → Process) → ((p q : Process) → IsClosedTerm script kinds p → IsClosedTerm script kinds q → IsClosedTerm script kinds (op p q)) →
      (p : Process) (ps : List Process) → IsClosedTerm script kinds p → Each (IsClosedTerm script kinds) ps → IsClosedTerm script kinds (left_grouped op p ps)
  grouped_closed op f p [] g h = g
  grouped_closed op f p (q ∷ qs) g h = grouped_closed op f (op p q) qs (f p q g h.0) h.1

  pub chain_closed : (op : Process → Process → Process) → ((p q : Process) → IsClosedTerm script kinds p → IsClosedTerm script kinds q → IsClosedTerm script kinds (op p q)) →
      (empty : Process) (ps : List Process) → IsClosedTerm script kinds empty → Each (IsClosedTerm script kinds) ps → IsClosedTerm script kinds (chain op empty ps)
  chain_closed op f empty [] g h = g
  chain_closed op f empty (p ∷ ps) g h = grouped_closed op f p ps h.0 h.1

  pub instances_of : (n : ℕ) (e : Expression) (p : Process) (k : Kind) (vs : List Value) → HasKind script.types kinds [] e (SetKind k) →
      IsWellKinded script kinds ((n, k) ∷ []) p → elements script.types e ≡ Ok vs →
      Each (IsClosedTerm script kinds) (instances n p vs)
  instances_of n e p k vs h g is = instances_closed script kinds sets n p k vs g
      (gives_value (λ vs. AreMembersOf script.types kinds vs k) (elements script.types e) vs (elements_kind script kinds sets e k h) is).0

  stands_closed : (p : Process) → IsClosedTerm script kinds p → OfSome (IsClosedTerm script kinds) (stands_for script p)
  stands_closed (Guard e p) h = true_closed (IsClosedTerm script kinds) (condition script.types e) p h.1
  stands_closed (If e p q) h = picked_closed (IsClosedTerm script kinds) (condition script.types e) p q h.1 h.2
  stands_closed (ReplicatedExternalChoice n e p) h = chained_closed (IsClosedTerm script kinds) ExternalChoice Stop n p (elements script.types e)
      (λ vs is. chain_closed ExternalChoice (λ p q g i. (g, i)) Stop (instances n p vs) tt (instances_of n e p h.0 vs h.1 h.2 is))
  stands_closed (ReplicatedInterleaving n e p) h = chained_closed (IsClosedTerm script kinds) Interleaving Skip n p (elements script.types e)
      (λ vs is. chain_closed Interleaving (λ p q g i. (g, i)) Skip (instances n p vs) tt (instances_of n e p h.0 vs h.1 h.2 is))
  stands_closed _ h = tt

  place_closed : (p v : Process) → IsClosedTerm script kinds p → IsClosedTerm script kinds v → IsClosedTerm script kinds (in_place_of p v)
  place_closed p v h g = either_one (IsClosedTerm script kinds) (is_no_larger p v) v p g h

  unless_closed : (c : Option Process) (p v : Process) → IsClosedTerm script kinds p → IsClosedTerm script kinds v → IsClosedTerm script kinds (unless_called c p v)
  unless_closed (Some c) p v h g = either_one (IsClosedTerm script kinds) (is_eq (process_cmp c p)) p v h g
  unless_closed None p v h g = g

  module _ (go_on : Process → Process) (on : (t : Process) → IsClosedTerm script kinds t → IsClosedTerm script kinds (go_on t)) where
    body_closed : (p : Process) (r : Result Process Cause) → IsClosedTerm script kinds p → Gives (IsClosedTerm script kinds) r → IsClosedTerm script kinds (body_or go_on p r)
    body_closed p (Ok t) h g = either_one (IsClosedTerm script kinds) (is_no_larger p t) (go_on t) p (on t g) h
    body_closed p (Err c) h g = h

    changed_closed : (p q : Process) → IsClosedTerm script kinds p → IsClosedTerm script kinds q → IsClosedTerm script kinds (changed_or p q (go_on q))
    changed_closed p q h g = either_one (IsClosedTerm script kinds) (is_eq (process_cmp q (go_on q))) p (in_place_of p (go_on q)) h (place_closed p (go_on q) h (on q g))

    unfolded_closed : (p : Process) (o : Option Process) → IsClosedTerm script kinds p → OfSome (IsClosedTerm script kinds) o → IsClosedTerm script kinds (unfolded_or go_on p o)
    unfolded_closed p (Some q) h g = either_one (IsClosedTerm script kinds) (fits q) (changed_or p q (go_on q)) p (changed_closed p q h g) h
    unfolded_closed p None h g = h

  module _ (go_on : Option Process → Process → Process) (on : (c : Option Process) (t : Process) → IsClosedTerm script kinds t → IsClosedTerm script kinds (go_on c t)) (c : Option Process) where
    calls_closed : (p : Process) → IsClosedTerm script kinds p → IsClosedTerm script kinds (unfold_calls script go_on c p)
    calls_closed (Call n es) h = unless_closed c (Call n es) (body_or (go_on (Some (Call n es))) (Call n es) (called script n es)) h
        (body_closed (go_on (Some (Call n es))) (on (Some (Call n es))) (Call n es) (called script n es) h (called_closed script kinds sets equations n es h.0 h.1 h.2))
    calls_closed (ExternalChoice p q) h = (calls_closed p h.0, calls_closed q h.1)
    calls_closed (Sequential p q) h = (calls_closed p h.0, h.1)
    calls_closed (Interleaving p q) h = (calls_closed p h.0, calls_closed q h.1)
    calls_closed (Interrupt p q) h = (calls_closed p h.0, calls_closed q h.1)
    calls_closed (GeneralisedParallel p a q) h = (calls_closed p h.0, h.1, calls_closed q h.2)
    calls_closed (AlphabetisedParallel p a b q) h = (calls_closed p h.0, h.1, h.2, calls_closed q h.3)
    calls_closed (Hiding p a) h = (calls_closed p h.0, h.1)
    calls_closed (Renaming p rs) h = (calls_closed p h.0, h.1)
    calls_closed (SlidingChoice p q) h = (calls_closed p h.0, h.1)
    calls_closed p h = unfolded_closed (go_on c) (on c) p (stands_for script p) h (stands_closed p h)

  within_closed : (n : ℕ) (c : Option Process) (p : Process) → IsClosedTerm script kinds p → IsClosedTerm script kinds (settled_within n script c p)
  within_closed zero c p h = h
  within_closed (suc n) c p h = calls_closed (settled_within n script) (within_closed n) c p h

  by_closed : (u : Unfolding) (p : Process) → IsClosedTerm script kinds p → IsClosedTerm script kinds (settled_by u script p)
  by_closed ByTau p h = h
  by_closed AtOnce p h = within_closed most_unfoldings None p h

  pub settled_closed : (p : Process) → IsClosedTerm script kinds p → IsClosedTerm script kinds (settled script p)
  settled_closed p h = by_closed script.unfolds p h
