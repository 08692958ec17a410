-- What is to blame in a term explains its first cause.
use Rattle.std.proofs.Common.{◌≡◌, ◌≢◌, ◌≤◌, ℕ, zero, suc, max, Bool, true, false, cond, nat_eq, List, [], ◌∷◌, slice_get, length, Option, Some, None, Result, Ok, Err, ok_or, refl, sym, ◌∙◌, ap, ap₂, subst, arith}
use Rattle.std.proofs.lemmas.Bool.{eqb-true, eqb-false}
use Rattle.std.specs.Option.{option_or}
use Rattle.std.specs.Result.{result_err}
use Rattle.theory_syntax.specs.Value.{Value}
use Rattle.theory_syntax.specs.Expression.{Expression, Expressions, no_expressions, expression_and, expressions_list}
use Rattle.theory_syntax.specs.Process.{Equation, Process, Stop, Skip, Omega, Call, Prefix, Guard, If, ExternalChoice, InternalChoice, Sequential, Interleaving, Interrupt, GeneralisedParallel, AlphabetisedParallel, Hiding, Renaming, ReplicatedExternalChoice, ReplicatedInternalChoice, ReplicatedInterleaving, SlidingChoice, Script}
use Rattle.theory_semantics.specs.Kinds.Kind.{Each}
use Rattle.theory_semantics.specs.Meaning.Evaluation.{Cause, IllKinded, ◌and_then◌, value, values}
use Rattle.theory_semantics.specs.Meaning.Events.{called, condition, elements, event_test, instances, parameter_bindings, prefix_communications, renaming}
use Rattle.theory_semantics.specs.Meaning.Faults.{cause_in, cause_within, first_cause, height, in_branch, in_instances, in_internal_chain}
use Rattle.theory_semantics.specs.Meaning.Substitution.{put}
use Rattle.theory_semantics.proofs.Causes.{height-pos, height-put}
use Rattle.theory_faults.specs.Culprit.{Culprit, Misfit, first_found}
use Rattle.theory_faults.specs.Events.{event_set_culprit, pair_culprit, prefix_culprit}
use Rattle.theory_faults.specs.Expressions.{condition_culprit, first_culprit, listed, members, members_culprit}
use Rattle.theory_faults.specs.Processes.{arguments_misfit, culprit_in, culprit_within, looked_at, no_choice, only_one, own_culprit, picked}
use Rattle.theory_faults.specs.Truth.{IsToBlame}
use Rattle.theory_faults.proofs.Blaming.{blamed_alone, blamed_map, blamed_or, blamed_then}
use Rattle.theory_faults.proofs.Events.{condition_blamed, event_set_blamed, members_blamed, or_or, pairs_blamed, prefix_blamed}
use Rattle.theory_faults.proofs.Expressions.{first_blamed}

module _ (s : Script) where
  -- ---- calls

  values_count : (es : Expressions) (vs : List Value) → values s.types es ≡ Ok vs → length vs ≡ length (expressions_list es)
  values_count no_expressions vs is = let none : [] ≡ vs = cc is in ap length (sym none)
  values_count (expression_and e es) vs is = by (value s.types e) (values s.types es) refl is (values_count es)
    where
      by : (q : Result Value Cause) (r : Result (List Value) Cause) → values s.types es ≡ r → (q and_then λ v. r and_then λ ws. Ok (v ∷ ws)) ≡ Ok vs →
          ((ws : List Value) → values s.types es ≡ Ok ws → length ws ≡ length (expressions_list es)) → length vs ≡ suc (length (expressions_list es))
      by (Ok v) (Ok ws) there so rest = let one : v ∷ ws ≡ vs = cc so in ap length (sym one) ∙ ap suc (rest ws there)
      by (Ok v) (Err c) there so rest = absurd (cc so)
      by (Err c) r there so rest = absurd (cc so)

  counted_blamed : (ns : List ℕ) (vs : List Value) (b : Bool) → (b ≡ true → length ns ≡ length vs) → (b ≡ false → length ns ≢ length vs) →
      IsToBlame s (cond b None (Some Misfit)) (result_err (parameter_bindings ns vs))
  counted_blamed [] [] true same differs = tt
  counted_blamed [] [] false same differs = absurd (differs refl refl)
  counted_blamed [] (v ∷ vs) true same differs = let e = same refl in absurd (cc e)
  counted_blamed [] (v ∷ vs) false same differs = refl
  counted_blamed (n ∷ ns) [] true same differs = let e = same refl in absurd (cc e)
  counted_blamed (n ∷ ns) [] false same differs = refl
  counted_blamed (n ∷ ns) (v ∷ vs) b same differs =
      blamed_map s (parameter_bindings ns vs) _ (cond b None (Some Misfit)) (counted_blamed ns vs b (λ t. let e = same t in cc e) (λ f e. differs f (ap suc e)))

  parameters_blamed : (ns : List ℕ) (vs : List Value) → IsToBlame s (cond (nat_eq (length ns) (length vs)) None (Some Misfit)) (result_err (parameter_bindings ns vs))
  parameters_blamed ns vs = counted_blamed ns vs (nat_eq (length ns) (length vs)) (eqb-true (length ns) (length vs)) (eqb-false (length ns) (length vs))

  arguments_blamed : (n : ℕ) (vs : List Value) (o : Option Equation) → length vs ≡ n →
      IsToBlame s (arguments_misfit n o) (result_err (ok_or o IllKinded and_then λ e. parameter_bindings e.parameters vs and_then λ bs. Ok (put bs e.body)))
  arguments_blamed n vs None same = refl
  arguments_blamed n vs (Some e) same =
      let P : ℕ → Type 0 = λ m. IsToBlame s (cond (nat_eq (length e.parameters) m) None (Some Misfit)) (result_err (parameter_bindings e.parameters vs and_then λ bs. Ok (put bs e.body))) in
      subst P same (blamed_map s (parameter_bindings e.parameters vs) (λ bs. put bs e.body) (cond (nat_eq (length e.parameters) (length vs)) None (Some Misfit)) (parameters_blamed e.parameters vs))

  called_blamed : (k : ℕ) (es : Expressions) →
      IsToBlame s (option_or (first_culprit s.types es) (arguments_misfit (length (expressions_list es)) (slice_get s.equations k))) (result_err (called s k es))
  called_blamed k es =
      blamed_then s (values s.types es) _ (first_culprit s.types es) (arguments_misfit (length (expressions_list es)) (slice_get s.equations k)) (first_blamed s es)
      (λ vs is. arguments_blamed (length (expressions_list es)) vs (slice_get s.equations k) (values_count es vs is))

  -- ---- processes that are looked at

  module _ (look : Process → Option Culprit) (cause : Process → Option Cause) (each : (p : Process) → IsToBlame s (look p) (cause p)) where
    one_blamed : (p : Process) → IsToBlame s (first_found look (p ∷ [])) (cause p)
    one_blamed p = blamed_alone s (look p) (cause p) (each p)

    two_blamed : (p q : Process) → IsToBlame s (first_found look (p ∷ q ∷ [])) (option_or (cause p) (cause q))
    two_blamed p q = blamed_or s (look p) (first_found look (q ∷ [])) (cause p) (cause q) (each p) (one_blamed q)

    all_blamed : (ps : List Process) → IsToBlame s (first_found look ps) (first_cause cause ps)
    all_blamed [] = tt
    all_blamed (p ∷ ps) = blamed_or s (look p) (first_found look ps) (cause p) (first_cause cause ps) (each p) (all_blamed ps)

    branch_blamed : (r : Result Bool Cause) (o : Option Culprit) (ps qs : List Process) (x y : Option Cause) → IsToBlame s o (result_err r) →
        IsToBlame s (first_found look ps) x → IsToBlame s (first_found look qs) y → IsToBlame s (option_or o (first_found look (picked r ps qs))) (in_branch r x y)
    branch_blamed (Ok true) None ps qs x y h first second = first
    branch_blamed (Ok false) None ps qs x y h first second = second
    branch_blamed (Ok b) (Some k) ps qs x y h first second = absurd h
    branch_blamed (Err c) (Some k) ps qs x y h first second = h
    branch_blamed (Err c) None ps qs x y h first second = absurd h

    instances_blamed : (r : Result (List Value) Cause) (o : Option Culprit) (x : ℕ) (p : Process) → IsToBlame s o (result_err r) →
        IsToBlame s (option_or o (first_found look (instances x p (listed r)))) (in_instances r (λ vs. first_cause cause (instances x p vs)))
    instances_blamed (Ok vs) None x p h = all_blamed (instances x p vs)
    instances_blamed (Ok vs) (Some k) x p h = absurd h
    instances_blamed (Err c) (Some k) x p h = h
    instances_blamed (Err c) None x p h = absurd h

    chain_blamed : (e : Expression) (r : Result (List Value) Cause) (o : Option Culprit) (x : ℕ) (p : Process) → elements s.types e ≡ r → IsToBlame s o (result_err r) →
        IsToBlame s (option_or (option_or o (no_choice x e r)) (first_found look (only_one (instances x p (listed r))))) (in_instances r (λ vs. in_internal_chain cause (instances x p vs)))
    chain_blamed e (Ok []) None x p is h = (refl, is)
    chain_blamed e (Ok (v ∷ [])) None x p is h = one_blamed (put ((x, v) ∷ []) p)
    chain_blamed e (Ok (v ∷ w ∷ vs)) None x p is h = tt
    chain_blamed e (Ok vs) (Some k) x p is h = absurd h
    chain_blamed e (Err c) (Some k) x p is h = h
    chain_blamed e (Err c) None x p is h = absurd h

  pub within_blamed : (n : ℕ) (p : Process) → IsToBlame s (culprit_within n s p) (cause_within n s p)
  within_blamed zero p = tt
  within_blamed (suc n) Stop = tt
  within_blamed (suc n) Skip = tt
  within_blamed (suc n) Omega = tt
  within_blamed (suc n) (InternalChoice p q) = tt
  within_blamed (suc n) (Call k es) = blamed_alone s (own_culprit s (Call k es)) (result_err (called s k es)) (called_blamed k es)
  within_blamed (suc n) (Prefix c fs p) = blamed_alone s (prefix_culprit s c fs) (result_err (prefix_communications s c fs)) (prefix_blamed s c fs)
  within_blamed (suc n) (Guard e p) =
      branch_blamed (culprit_within n s) (cause_within n s) (within_blamed n) (condition s.types e) (condition_culprit s.types e) (p ∷ []) [] (cause_within n s p) None (condition_blamed s e)
      (one_blamed (culprit_within n s) (cause_within n s) (within_blamed n) p) tt
  within_blamed (suc n) (If e p q) =
      branch_blamed (culprit_within n s) (cause_within n s) (within_blamed n) (condition s.types e) (condition_culprit s.types e) (p ∷ []) (q ∷ []) (cause_within n s p) (cause_within n s q)
      (condition_blamed s e) (one_blamed (culprit_within n s) (cause_within n s) (within_blamed n) p) (one_blamed (culprit_within n s) (cause_within n s) (within_blamed n) q)
  within_blamed (suc n) (ExternalChoice p q) = two_blamed (culprit_within n s) (cause_within n s) (within_blamed n) p q
  within_blamed (suc n) (Interleaving p q) = two_blamed (culprit_within n s) (cause_within n s) (within_blamed n) p q
  within_blamed (suc n) (Interrupt p q) = two_blamed (culprit_within n s) (cause_within n s) (within_blamed n) p q
  within_blamed (suc n) (SlidingChoice p q) = two_blamed (culprit_within n s) (cause_within n s) (within_blamed n) p q
  within_blamed (suc n) (Sequential p q) = one_blamed (culprit_within n s) (cause_within n s) (within_blamed n) p
  within_blamed (suc n) (GeneralisedParallel p a q) =
      blamed_or s (event_set_culprit s a) _ (result_err (event_test s a)) _ (event_set_blamed s a) (two_blamed (culprit_within n s) (cause_within n s) (within_blamed n) p q)
  within_blamed (suc n) (AlphabetisedParallel p a b q) =
      let sides = first_found (culprit_within n s) (p ∷ q ∷ []) in
      let P : Option Culprit → Type 0 = λ o. IsToBlame s o (cause_within (suc n) s (AlphabetisedParallel p a b q)) in
      subst P (sym (or_or (event_set_culprit s a) (event_set_culprit s b) sides))
      (blamed_or s (event_set_culprit s a) (option_or (event_set_culprit s b) sides) (result_err (event_test s a)) _ (event_set_blamed s a)
      (blamed_or s (event_set_culprit s b) sides (result_err (event_test s b)) _ (event_set_blamed s b) (two_blamed (culprit_within n s) (cause_within n s) (within_blamed n) p q)))
  within_blamed (suc n) (Hiding p a) =
      blamed_or s (event_set_culprit s a) _ (result_err (event_test s a)) _ (event_set_blamed s a) (one_blamed (culprit_within n s) (cause_within n s) (within_blamed n) p)
  within_blamed (suc n) (Renaming p rs) =
      blamed_or s (first_found (pair_culprit s) rs) _ (result_err (renaming s rs)) _ (pairs_blamed s rs) (one_blamed (culprit_within n s) (cause_within n s) (within_blamed n) p)
  within_blamed (suc n) (ReplicatedExternalChoice x e p) =
      instances_blamed (culprit_within n s) (cause_within n s) (within_blamed n) (elements s.types e) (members_culprit s.types e) x p (members_blamed s e)
  within_blamed (suc n) (ReplicatedInternalChoice x e p) =
      chain_blamed (culprit_within n s) (cause_within n s) (within_blamed n) e (elements s.types e) (members_culprit s.types e) x p refl (members_blamed s e)
  within_blamed (suc n) (ReplicatedInterleaving x e p) =
      instances_blamed (culprit_within n s) (cause_within n s) (within_blamed n) (elements s.types e) (members_culprit s.types e) x p (members_blamed s e)

  -- ---- looking deeper

  -- the processes that are looked at are less high
  abbrev pub AreLower : ℕ → List Process → Type 0
  AreLower h ps = Each (λ q. suc (height q) ≤ h) ps

  instances_lower : (x : ℕ) (p : Process) (vs : List Value) → AreLower (suc (height p)) (instances x p vs)
  instances_lower x p [] = tt
  instances_lower x p (v ∷ vs) = (omega (arith, height-put ((x, v) ∷ []) p), instances_lower x p vs)

  only_one_lower : (h : ℕ) (ps : List Process) → AreLower h ps → AreLower h (only_one ps)
  only_one_lower h [] low = tt
  only_one_lower h (p ∷ []) low = low
  only_one_lower h (p ∷ q ∷ ps) low = tt

  picked_lower : (h : ℕ) (r : Result Bool Cause) (ps qs : List Process) → AreLower h ps → AreLower h qs → AreLower h (picked r ps qs)
  picked_lower h (Ok true) ps qs first second = first
  picked_lower h (Ok false) ps qs first second = second
  picked_lower h (Err c) ps qs first second = tt

  pub looked_at_lower : (p : Process) → AreLower (height p) (looked_at s p)
  looked_at_lower Stop = tt
  looked_at_lower Skip = tt
  looked_at_lower Omega = tt
  looked_at_lower (InternalChoice p q) = tt
  looked_at_lower (Call k es) = tt
  looked_at_lower (Prefix c fs p) = tt
  looked_at_lower (Guard e p) = picked_lower (suc (height p)) (condition s.types e) (p ∷ []) [] (omega arith, tt) tt
  looked_at_lower (If e p q) = picked_lower (suc (max (height p) (height q))) (condition s.types e) (p ∷ []) (q ∷ []) (omega arith, tt) (omega arith, tt)
  looked_at_lower (ExternalChoice p q) = (omega arith, (omega arith, tt))
  looked_at_lower (Interleaving p q) = (omega arith, (omega arith, tt))
  looked_at_lower (Interrupt p q) = (omega arith, (omega arith, tt))
  looked_at_lower (SlidingChoice p q) = (omega arith, (omega arith, tt))
  looked_at_lower (Sequential p q) = (omega arith, tt)
  looked_at_lower (GeneralisedParallel p a q) = (omega arith, (omega arith, tt))
  looked_at_lower (AlphabetisedParallel p a b q) = (omega arith, (omega arith, tt))
  looked_at_lower (Hiding p a) = (omega arith, tt)
  looked_at_lower (Renaming p rs) = (omega arith, tt)
  looked_at_lower (ReplicatedExternalChoice x e p) = instances_lower x p (members s.types e)
  looked_at_lower (ReplicatedInternalChoice x e p) = only_one_lower (suc (height p)) (instances x p (members s.types e)) (instances_lower x p (members s.types e))
  looked_at_lower (ReplicatedInterleaving x e p) = instances_lower x p (members s.types e)

  found_same : (f g : Process → Option Culprit) (h : ℕ) (ps : List Process) → ((q : Process) → suc (height q) ≤ h → f q ≡ g q) → AreLower h ps → first_found f ps ≡ first_found g ps
  found_same f g h [] same low = refl
  found_same f g h (p ∷ ps) same low = ap₂ option_or (same p low.0) (found_same f g h ps same low.1)

  enough : (n m : ℕ) (p : Process) → height p ≤ n → height p ≤ m → culprit_within n s p ≡ culprit_within m s p
  enough zero m p h k = absurd (omega (arith, height-pos p))
  enough (suc n) zero p h k = absurd (omega (arith, height-pos p))
  enough (suc n) (suc m) p h k =
      ap (option_or (own_culprit s p)) (found_same (culprit_within n s) (culprit_within m s) (height p) (looked_at s p) (λ q low. enough n m q (omega arith) (omega arith)) (looked_at_lower p))

  -- in the term's own parts, or else in what is looked at
  pub culprit_of_parts : (p : Process) → culprit_in s p ≡ option_or (own_culprit s p) (first_found (culprit_in s) (looked_at s p))
  culprit_of_parts p =
      enough (height p) (suc (height p)) p (omega arith) (omega arith)
      ∙ ap (option_or (own_culprit s p)) (found_same (culprit_within (height p) s) (culprit_in s) (height p) (looked_at s p) (λ q low. enough (height p) (height q) q (omega arith) (omega arith)) (looked_at_lower p))

  pub culprit_explains : (p : Process) → IsToBlame s (culprit_in s p) (cause_in s p)
  culprit_explains p = within_blamed (height p) p
