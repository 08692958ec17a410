-- The event of a channel whose fields are given.
use Rattle.std.proofs.Common.{◌≡◌, ℕ, nat_eq, Bool, true, false, cond, List, length, Some, Result, Ok, Err, sym, ◌∙◌, ap, refl}
use Rattle.std.proofs.lemmas.Bool.{eq-eqb, eqb-true}
use Rattle.std.specs.Result.{result_err, result_ok}
use Rattle.theory_syntax.specs.Value.{Event, Value}
use Rattle.theory_syntax.specs.Process.{EventExpression, Script}
use Rattle.theory_semantics.specs.Meaning.Evaluation.{Cause, IllKinded, ◌and_then◌, given_values}
use Rattle.theory_semantics.specs.Meaning.Events.{beginning_of, event_of, field_sets}
use Rattle.csp_expression.specs.Cause.{cause_of}
use Rattle.csp_expression.specs.declared.no_value.NoValue.{NoValue}
use Rattle.csp_expression.specs.declared.no_value.NoValue.TheVariants as eval
use Rattle.csp_events.specs.Testing.{AreGivenBy, AreSetsOf, IsEventOf}

-- the channel with these values
abbrev made : ℕ → List Value → Event
made c vs = record { channel = c; fields = vs }

-- behind the sets of the channel, the values decide
module _ (s : Script) (e : EventExpression) (sets : List (List Value)) (has : field_sets s e.channel ≡ Ok sets) where
  begins_by : beginning_of s e ≡ (given_values s.types e.fields sets and_then λ vs. Ok (made e.channel vs))
  begins_by = ap (λ r. r and_then λ zs. given_values s.types e.fields zs and_then λ vs. Ok (made e.channel vs)) has

  -- there are values
  pub begun : (vs : List Value) → given_values s.types e.fields sets ≡ Ok vs → beginning_of s e ≡ Ok (made e.channel vs)
  begun vs is = begins_by ∙ ap (λ r. r and_then λ us. Ok (made e.channel us)) is

  -- there are none
  pub not_begun : (c : Cause) → given_values s.types e.fields sets ≡ Err c → beginning_of s e ≡ Err c
  not_begun c is = begins_by ∙ ap (λ r. r and_then λ us. Ok (made e.channel us)) is

  -- the event is whole where its beginning has all fields
  pub whole_by : (b : Event) → beginning_of s e ≡ Ok b → event_of s e ≡ cond (nat_eq (length b.fields) (length sets)) (Ok b) (Err IllKinded)
  whole_by b is =
      ap (λ r. r and_then λ zs. given_values s.types e.fields zs and_then λ vs. cond (nat_eq (length vs) (length zs)) (Ok (made e.channel vs)) (Err IllKinded)) has
      ∙ by_values (given_values s.types e.fields sets) (sym begins_by ∙ is)
    where
      by_values : (r : Result (List Value) Cause) → (r and_then λ vs. Ok (made e.channel vs)) ≡ Ok b →
          (r and_then λ vs. cond (nat_eq (length vs) (length sets)) (Ok (made e.channel vs)) (Err IllKinded)) ≡ cond (nat_eq (length b.fields) (length sets)) (Ok b) (Err IllKinded)
      by_values (Ok vs) same =
          let k : Some (made e.channel vs) ≡ Some b = ap result_ok same in
          let j : made e.channel vs ≡ b = cc k in
          ap (λ d. cond (nat_eq (length d.fields) (length sets)) (Ok d) (Err IllKinded)) j
      by_values (Err c) same = absurd (cc same)

  -- it has them all
  pub whole : (b : Event) → beginning_of s e ≡ Ok b → length b.fields ≡ length sets → event_of s e ≡ Ok b
  whole b is all = whole_by b is ∙ ap (λ t. cond t (Ok b) (Err IllKinded)) (eq-eqb (length b.fields) (length sets) all)

  -- it has not
  pub not_all : (b : Event) → beginning_of s e ≡ Ok b → (length b.fields ≡ length sets → ⊥) → event_of s e ≡ Err IllKinded
  not_all b is fewer = whole_by b is ∙ by_test (nat_eq (length b.fields) (length sets)) refl
    where
      by_test : (t : Bool) → nat_eq (length b.fields) (length sets) ≡ t → cond t (Ok b) (Err IllKinded) ≡ Err IllKinded
      by_test true same = absurd (fewer (eqb-true (length b.fields) (length sets) same))
      by_test false same = refl

module _ (s : Script) (e : EventExpression) (c : Cause) where
  -- a channel that is not there has no event
  pub no_sets : field_sets s e.channel ≡ Err c → beginning_of s e ≡ Err c
  no_sets none = ap (λ r. r and_then λ zs. given_values s.types e.fields zs and_then λ vs. Ok (made e.channel vs)) none

  -- what has no beginning is no event
  pub not_whole : beginning_of s e ≡ Err c → event_of s e ≡ Err c
  not_whole none = by_sets (field_sets s e.channel) none
    where
      by_values : (n : ℕ) (r : Result (List Value) Cause) → (r and_then λ vs. Ok (made e.channel vs)) ≡ Err c →
          (r and_then λ vs. cond (nat_eq (length vs) n) (Ok (made e.channel vs)) (Err IllKinded)) ≡ Err c
      by_values n (Ok vs) same = absurd (cc same)
      by_values n (Err d) same = let k : Some d ≡ Some c = ap result_err same in let j : d ≡ c = cc k in ap Err j

      by_sets : (r : Result (List (List Value)) Cause) → (r and_then λ zs. given_values s.types e.fields zs and_then λ vs. Ok (made e.channel vs)) ≡ Err c →
          (r and_then λ zs. given_values s.types e.fields zs and_then λ vs. cond (nat_eq (length vs) (length zs)) (Ok (made e.channel vs)) (Err IllKinded)) ≡ Err c
      by_sets (Ok zs) same = by_values (length zs) (given_values s.types e.fields zs) same
      by_sets (Err d) same = let k : Some d ≡ Some c = ap result_err same in let j : d ≡ c = cc k in ap Err j

-- ---- events that are not found

module _ (A : Type 0) (s : Script) (e : EventExpression) where
  -- without sets there is no beginning
  pub sets_stuck : (why : NoValue) → AreSetsOf {A = A} (Err why) (field_sets s e.channel) → IsEventOf {A = A} (Err why) (beginning_of s e)
  sets_stuck (eval.Cause c) none = no_sets s e (cause_of c) none
  sets_stuck eval.Memory none = tt

  -- nor without values
  pub values_stuck : (sets : List (List Value)) → field_sets s e.channel ≡ Ok sets → (why : NoValue) → AreGivenBy {A = A} (Err why) (given_values s.types e.fields sets) → IsEventOf {A = A} (Err why) (beginning_of s e)
  values_stuck sets has (eval.Cause c) none = not_begun s e sets has (cause_of c) none
  values_stuck sets has eval.Memory none = tt

  -- without a beginning there is no event
  pub beginning_stuck : (why : NoValue) → IsEventOf {A = A} (Err why) (beginning_of s e) → IsEventOf {A = A} (Err why) (event_of s e)
  beginning_stuck (eval.Cause c) none = not_whole s e (cause_of c) none
  beginning_stuck eval.Memory none = tt
