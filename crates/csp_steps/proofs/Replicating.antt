-- A replicated form is answered by what is answered of the chain of its instances, and that by what is answered of them.
use Rattle.std.proofs.Common.{◌≡◌, Contains, IfOk, ℕ, ◌+◌, ◌<◌, List, [], ◌∷◌, ◌++◌, map, take, drop, length, get_or, Option, Some, None, Result, Ok, Err, refl, sym, ◌∙◌, ap, ap₂, subst}
use Rattle.std.proofs.lemmas.List.{drop_more, map-append, take-append-drop, take_more}
use Rattle.std.specs.Option.{option_or}
use Rattle.std.specs.declared.vec.Vec.{Vec}
use Rattle.theory_syntax.specs.Value as pure
use Rattle.theory_syntax.specs.Expression.{Expression}
use Rattle.theory_syntax.specs.Process.{Process, Script, Stop, Skip, ExternalChoice, InternalChoice, Interleaving, ReplicatedExternalChoice, ReplicatedInternalChoice, ReplicatedInterleaving}
use Rattle.theory_syntax.specs.Types.{Types}
use Rattle.theory_syntax.specs.declared.process_operator.ReplicatedOperator.{ReplicatedOperator}
use Rattle.theory_syntax.specs.declared.process_operator.ReplicatedOperator.TheVariants as operator
use Rattle.theory_syntax.specs.Operators.{replicated_process}
use Rattle.theory_semantics.specs.Meaning.Evaluation.{Cause, IllKinded, ◌and_then◌, value}
use Rattle.theory_semantics.specs.Meaning.Events.{elements, instances, members_of}
use Rattle.theory_semantics.specs.Meaning.Faults.{cause_in, first_cause, in_instances, in_internal_chain}
use Rattle.theory_semantics.specs.Meaning.Stepping.{always, never}
use Rattle.theory_semantics.specs.Meaning.Substitution.{Bindings, bind, put, without}
use Rattle.theory_semantics.specs.Meaning.Transitions as rule
use Rattle.theory_semantics.specs.Meaning.Transitions.{chain, left_grouped}
use Rattle.theory_semantics.specs.Meaning.Unfolding.{settled}
use Rattle.theory_semantics.proofs.Causes.{replicated_external_cause, replicated_interleaving_cause, replicated_internal_cause}
use Rattle.theory_semantics.proofs.Chains.{external_chain_cause, interleaving_chain_cause, internal_chain_cause, or_assoc}
use Rattle.csp_value.specs.declared.value.Value.{Value}
use Rattle.csp_value.specs.Value.{members_of as set_members, value_of, values_of}
use Rattle.csp_value.specs.declared.value.Value.TheVariants as views
use Rattle.csp_value.specs.declared.set.SetOf.{SetOf}
use Rattle.csp_expression.proofs.Forming.{set_is}
use Rattle.csp_expression.specs.Evaluation.{Sees}
use Rattle.csp_expression.specs.Cause.{cause_of}
use Rattle.csp_expression.specs.declared.no_value.NoValue.{NoValue}
use Rattle.csp_expression.specs.declared.no_value.NoValue.TheVariants as eval
use Rattle.csp_steps.specs.declared.rule_step.RuleStep.{RuleStep}
use Rattle.csp_steps.specs.declared.rules.replicated.Looking.{Looking}
use Rattle.csp_steps.specs.declared.rules.replicated.Looking.TheVariants as looking
use Rattle.csp_steps.specs.declared.side.Side.{Side}
use Rattle.csp_steps.specs.Answering.{Answered, Answers, IsAnswered, target_of, within_limits}
use Rattle.csp_steps.specs.Composing.{HaveSameSteps, IsSideOf, parallel_answers, side_answers, under_both}
use Rattle.csp_steps.specs.Replicating.{AnswersChoices, looking_answers, looking_process}
use Rattle.csp_steps.proofs.Composing.{limits_under_both}
use Rattle.csp_steps.proofs.Joining.{interleaving_answered}
use Rattle.csp_steps.proofs.Operating.{external_answered, internal_answered}
use Rattle.csp_steps.proofs.Past.{external_first, external_second, interleaving_first, interleaving_second, internal_first, internal_second}
use Rattle.csp_steps.proofs.Ruling.{answered}
use Rattle.csp_steps.proofs.Same.{answered_by_same}
use Rattle.csp_steps.proofs.Twice.{both_bound, both_nothing, put_twice}

-- ---- instances

-- the value goes into the process that already has the bindings
pub instances_are : {A : Type 0} (n : ℕ) (bs : Bindings) (p : Process) (vs : List (Value A)) → instances n (put (without n bs) p) (values_of vs) ≡ map (λ v. put (bind n (value_of v) bs) p) vs
instances_are n bs p [] = refl
instances_are n bs p (v ∷ vs) =
    ap₂ (λ q qs. q ∷ qs) (put_twice (without n bs) ((n, value_of v) ∷ []) (bind n (value_of v) bs) (both_bound n (value_of v) bs [] bs (both_nothing bs)) p) (instances_are n bs p vs)

module _ {X Y : Type 0} (f : X → Y) (items : List X) (i : ℕ) (item : X) (within : i < length items) (read : item ≡ get_or items i item) where
  -- what is made of one more item
  pub mapped_more : map f (take (i + 1) items) ≡ map f (take i items) ++ f item ∷ []
  mapped_more = ap (map f) (take_more items i item within ∙ ap (λ z. take i items ++ z ∷ []) (sym read)) ∙ map-append f (take i items) (item ∷ [])

  pub mapped_split : map f items ≡ map f (take i items) ++ f item ∷ map f (drop (i + 1) items)
  mapped_split =
      ap (map f) (sym (take-append-drop i items) ∙ ap (λ zs. take i items ++ zs) (drop_more items i item within ∙ ap (λ z. z ∷ drop (i + 1) items) (sym read)))
      ∙ map-append f (take i items) (item ∷ drop (i + 1) items)

-- ---- chains

-- one more process
pub grouped_more : (op : Process → Process → Process) (p : Process) (qs : List Process) (q : Process) → left_grouped op p (qs ++ q ∷ []) ≡ op (left_grouped op p qs) q
grouped_more op p [] q = refl
grouped_more op p (r ∷ qs) q = grouped_more op (op p r) qs q

first_of_both : (look : Process → Option Cause) (ps qs : List Process) → first_cause look (ps ++ qs) ≡ option_or (first_cause look ps) (first_cause look qs)
first_of_both look [] qs = refl
first_of_both look (p ∷ ps) qs = ap (option_or (look p)) (first_of_both look ps qs) ∙ sym (or_assoc (look p) (first_cause look ps) (first_cause look qs))

module _ (s : Script) where
  grouped_cause : (k : Looking) (p : Process) (qs : List Process) → cause_in s (left_grouped (looking_process k) p qs) ≡ first_cause (cause_in s) (p ∷ qs)
  grouped_cause looking.ExternalChoice p qs = external_chain_cause s (p ∷ qs)
  grouped_cause looking.Interleaving p qs = interleaving_chain_cause s (p ∷ qs)

  module _ (k : Looking) (A : Type 0) (p : Process) (qs : List Process) where
    -- the first instance is stuck
    pub stuck_at_first : (why : NoValue) → IsSideOf {A = A} s p (Err why) → Answers {A = A} s (left_grouped (looking_process k) p qs) (Err why)
    stuck_at_first (eval.Cause c) is = grouped_cause k p qs ∙ ap (λ o. option_or o (first_cause (cause_in s) qs)) is
    stuck_at_first eval.Memory is = tt

    -- an instance is stuck behind others that are not
    pub stuck_behind : (q : Process) (rs : List Process) → cause_in s (left_grouped (looking_process k) p qs) ≡ None → (why : NoValue) → IsSideOf {A = A} s q (Err why) → Answers {A = A} s (left_grouped (looking_process k) p (qs ++ q ∷ rs)) (Err why)
    stuck_behind q rs clear (eval.Cause c) is =
        grouped_cause k p (qs ++ q ∷ rs) ∙ first_of_both (cause_in s) (p ∷ qs) (q ∷ rs)
        ∙ ap₂ option_or (sym (grouped_cause k p qs) ∙ clear) (ap (λ o. option_or o (first_cause (cause_in s) rs)) is)
    stuck_behind q rs clear eval.Memory is = tt

  module _ (p : Process) (bs : List Answered) (q : Process) (cs : List Answered) (o r : Option Process) (first_is : o ≡ within_limits p) (second_is : r ≡ within_limits q) where
    two_within : (k : Looking) → under_both (looking_process k) o r ≡ within_limits (looking_process k p q)
    two_within looking.ExternalChoice = ap₂ (under_both ExternalChoice) first_is second_is ∙ limits_under_both ExternalChoice external_first external_second p q
    two_within looking.Interleaving = ap₂ (under_both Interleaving) first_is second_is ∙ limits_under_both Interleaving interleaving_first interleaving_second p q

    two_answered : (k : Looking) → IsAnswered s p bs → IsAnswered s q cs → IsAnswered s (looking_process k p q) (looking_answers k o bs r cs)
    two_answered looking.ExternalChoice first second = external_answered s p bs q cs o r first_is second_is first second
    two_answered looking.Interleaving first second =
        let P : List Answered → Type 0 = λ xs. IsAnswered s (Interleaving p q) xs in
        subst P (ap₂ (λ t u. parallel_answers always always never Interleaving t bs u cs) (sym first_is) (sym second_is)) (interleaving_answered s p q bs cs first second)

  -- two sides under the operator of the chain
  pub two_sides : {A : Type 0} (k : Looking) (p q : Process) (left right side : Side A) → IsSideOf s p (Ok left) → IsSideOf s q (Ok right) → target_of side.process ≡ under_both (looking_process k) (target_of left.process) (target_of right.process) →
      HaveSameSteps (side_answers side) (looking_answers k (target_of left.process) (side_answers left) (target_of right.process) (side_answers right)) → IsSideOf s (looking_process k p q) (Ok side)
  two_sides k p q left right side first second process same = (
    process ∙ two_within p (side_answers left) q (side_answers right) (target_of left.process) (target_of right.process) first.0 second.0 k,
    answered_by_same s (looking_process k p q) (side_answers side) (looking_answers k (target_of left.process) (side_answers left) (target_of right.process) (side_answers right)) same
        (two_answered p (side_answers left) q (side_answers right) (target_of left.process) (target_of right.process) first.0 second.0 k first.1 second.1),
  )

  -- a choice between the chain of the first ones and the last one
  pub last_choice : (p : Process) (qs : List Process) (q : Process) (answers : List Answered) → answers ≡ (pure.Tau, within_limits (settled s (left_grouped InternalChoice p qs))) ∷ (pure.Tau, within_limits (settled s q)) ∷ [] →
      IsAnswered s (left_grouped InternalChoice p (qs ++ q ∷ [])) answers
  last_choice p qs q answers is =
      let P : Process → Type 0 = λ t. IsAnswered s t answers in
      let Q : List Answered → Type 0 = λ xs. IsAnswered s (InternalChoice (left_grouped InternalChoice p qs) q) xs in
      subst P (sym (grouped_more InternalChoice p qs q)) (subst Q (sym is) (internal_answered s (left_grouped InternalChoice p qs) q))

-- one more process of a chain of internal choices
pub choice_within : (p q : Process) (o r : Option Process) → o ≡ within_limits p → r ≡ within_limits q → under_both InternalChoice o r ≡ within_limits (InternalChoice p q)
choice_within p q o r first_is second_is = ap₂ (under_both InternalChoice) first_is second_is ∙ limits_under_both InternalChoice internal_first internal_second p q

-- ---- replicated forms

module _ (s : Script) (n : ℕ) (e : Expression) (p : Process) where
  -- a set without elements to put in
  no_elements : (op : ReplicatedOperator) (c : Cause) → elements s.types e ≡ Err c → cause_in s (replicated_process op n e p) ≡ Some c
  no_elements operator.ExternalChoice c is = replicated_external_cause s n e p ∙ ap (λ r. in_instances r (λ vs. first_cause (cause_in s) (instances n p vs))) is
  no_elements operator.InternalChoice c is = replicated_internal_cause s n e p ∙ ap (λ r. in_instances r (λ vs. in_internal_chain (cause_in s) (instances n p vs))) is
  no_elements operator.Interleaving c is = replicated_interleaving_cause s n e p ∙ ap (λ r. in_instances r (λ vs. first_cause (cause_in s) (instances n p vs))) is

  pub set_stuck : (A : Type 0) (op : ReplicatedOperator) (why : NoValue) → Sees {A = A} (Err why) (value s.types e) → Answers {A = A} s (replicated_process op n e p) (Err why)
  set_stuck A op (eval.Cause c) none = no_elements op (cause_of c) (ap (λ r. r and_then λ v. members_of v) none)
  set_stuck A op eval.Memory none = tt

  pub no_set : (op : ReplicatedOperator) (v : pure.Value) → value s.types e ≡ Ok v → members_of v ≡ Err IllKinded → cause_in s (replicated_process op n e p) ≡ Some IllKinded
  no_set op v is none = no_elements op IllKinded (ap (λ r. r and_then λ w. members_of w) is ∙ none)

  module _ (vs : List pure.Value) (are : elements s.types e ≡ Ok vs) where
    same_elements : (ws : List pure.Value) → elements s.types e ≡ Ok ws → ws ≡ vs
    same_elements ws is = let h = sym is ∙ are in cc h

    external_in : (x : pure.Action) (t : Process) → rule.RuleStep s (ReplicatedExternalChoice n e p) x t → rule.RuleStep s (chain ExternalChoice Stop (instances n p vs)) x t
    external_in x t (rule.replicated_external ws is step) =
        let P : List pure.Value → Type 0 = λ us. rule.RuleStep s (chain ExternalChoice Stop (instances n p us)) x t in subst P (same_elements ws is) step

    pub external_by_chain : {A : Type 0} (r : Result (Vec (RuleStep A) A) NoValue) → Answers s (chain ExternalChoice Stop (instances n p vs)) r → Answers s (ReplicatedExternalChoice n e p) r
    external_by_chain r h =
        answered s (chain ExternalChoice Stop (instances n p vs)) (ReplicatedExternalChoice n e p) (λ x t. (external_in x t, λ step. rule.replicated_external vs are step))
        (replicated_external_cause s n e p ∙ ap (λ r. in_instances r (λ us. first_cause (cause_in s) (instances n p us))) are ∙ sym (external_chain_cause s (instances n p vs))) r h

    interleaving_in : (x : pure.Action) (t : Process) → rule.RuleStep s (ReplicatedInterleaving n e p) x t → rule.RuleStep s (chain Interleaving Skip (instances n p vs)) x t
    interleaving_in x t (rule.replicated_interleaving ws is step) =
        let P : List pure.Value → Type 0 = λ us. rule.RuleStep s (chain Interleaving Skip (instances n p us)) x t in subst P (same_elements ws is) step

    pub interleaving_by_chain : {A : Type 0} (r : Result (Vec (RuleStep A) A) NoValue) → Answers s (chain Interleaving Skip (instances n p vs)) r → Answers s (ReplicatedInterleaving n e p) r
    interleaving_by_chain r h =
        answered s (chain Interleaving Skip (instances n p vs)) (ReplicatedInterleaving n e p) (λ x t. (interleaving_in x t, λ step. rule.replicated_interleaving vs are step))
        (replicated_interleaving_cause s n e p ∙ ap (λ r. in_instances r (λ us. first_cause (cause_in s) (instances n p us))) are ∙ sym (interleaving_chain_cause s (instances n p vs))) r h

    internal_in : (x : pure.Action) (t : Process) → rule.RuleStep s (ReplicatedInternalChoice n e p) x t → rule.RuleStep s (chain InternalChoice Stop (instances n p vs)) x t
    internal_in x t (rule.replicated_internal w ws is step) =
        let P : List pure.Value → Type 0 = λ us. rule.RuleStep s (chain InternalChoice Stop (instances n p us)) x t in subst P (same_elements (w ∷ ws) is) step

  pub internal_by_chain : {A : Type 0} (vs : List pure.Value) → elements s.types e ≡ Ok vs → (r : Result (Vec (RuleStep A) A) NoValue) → AnswersChoices s (instances n p vs) r → Answers s (ReplicatedInternalChoice n e p) r
  internal_by_chain {A} [] are r h =
      let P : Result (Vec (RuleStep A) A) NoValue → Type 0 = λ r. Answers s (ReplicatedInternalChoice n e p) r in
      subst P (sym h) (replicated_internal_cause s n e p ∙ ap (λ r. in_instances r (λ us. in_internal_chain (cause_in s) (instances n p us))) are)
  internal_by_chain (v ∷ vs) are r h =
      answered s (chain InternalChoice Stop (instances n p (v ∷ vs))) (ReplicatedInternalChoice n e p) (λ x t. (internal_in (v ∷ vs) are x t, λ step. rule.replicated_internal v vs are step))
      (replicated_internal_cause s n e p ∙ ap (λ r. in_instances r (λ us. in_internal_chain (cause_in s) (instances n p us))) are ∙ sym (internal_chain_cause s (put ((n, v) ∷ []) p) (instances n p vs))) r h

-- equal answers have the same steps
pub same_by_equal : {A E : Type 0} (r : Result (Side A) E) (answers : List Answered) → IfOk r (λ side. side_answers side ≡ answers) → IfOk r (λ side. HaveSameSteps (side_answers side) answers)
same_by_equal (Ok side) answers is = λ b. let P : List Answered → Type 0 = λ xs. Contains xs b in (subst P is, subst P (sym is))
same_by_equal (Err e) answers is = tt
