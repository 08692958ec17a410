-- The communications of a field and those behind it.
use Rattle.std.proofs.Common.{◌≡◌, ℕ, ◌+◌, ◌<◌, Bool, true, false, cond, filter, List, [], ◌∷◌, ◌++◌, take, drop, length, get_or, Result, Ok, Err, refl, sym, ◌∙◌, ap}
use Rattle.std.proofs.lemmas.List.{append-nil, drop_more, map-append, take-append-drop, take_more}
use Rattle.std.proofs.lemmas.List.Elements.{filter-append}
use Rattle.theory_syntax.specs.Value as pure
use Rattle.theory_syntax.specs.Expression.{Expression}
use Rattle.theory_syntax.specs.Process.{Field, Given, Input, InputFrom, Process, Script}
use Rattle.theory_syntax.specs.Types.{Types}
use Rattle.theory_semantics.specs.Meaning.Evaluation.{Cause, IllKinded, OutOfRange, ◌and_then◌, in_field_set, value}
use Rattle.theory_semantics.specs.Meaning.Events.{Communication, communications, each_list, members_of, with_value}
use Rattle.theory_semantics.specs.Meaning.Substitution.{Bindings, bind, put_expression}
use Rattle.csp_value.specs.declared.value.Value.{Value}
use Rattle.csp_value.specs.Value.{value_of, values_of}
use Rattle.csp_expression.specs.declared.no_value.NoValue.{NoValue}
use Rattle.csp_expression.specs.declared.no_value.NoValue.TheVariants as eval
use Rattle.csp_expression.specs.Evaluation.{Sees}
use Rattle.csp_steps.specs.declared.rule_step.RuleStep.{RuleStep}
use Rattle.std.specs.declared.vec.Vec.{Vec}
use Rattle.csp_steps.specs.Communicating.{Finds}

module _ (types : Types) (bs : Bindings) (fs : List Field) (set : List pure.Value) (sets : List (List pure.Value)) where
  -- what follows a value that an input takes
  abbrev pub behind_input : ℕ → pure.Value → Result (List Communication) Cause
  behind_input n v = communications types (bind n v bs) fs sets and_then λ ms. Ok (with_value v ms)

  module _ (A : Type 0) (script : Script) (c : ℕ) (p : Process) (vs : List pure.Value) (before : Vec (RuleStep A) A) (e : Expression) (why : NoValue) (none : Sees {A = A} (Err why) (value types (put_expression bs e))) where
    -- a given value that does not exist
    pub given_stuck : Finds script c p vs before (communications types bs (Given e ∷ fs) (set ∷ sets)) (Err why)
    given_stuck = by_fault why none
      where
        by_fault : (f : NoValue) → Sees {A = A} (Err f) (value types (put_expression bs e)) → Finds script c p vs before (communications types bs (Given e ∷ fs) (set ∷ sets)) (Err f)
        by_fault eval.Memory is = tt
        by_fault (eval.Cause d) is = ap (λ r. r and_then λ v. in_field_set set v and_then λ w. communications types bs fs sets and_then λ ms. Ok (with_value v ms)) is

    -- a set to choose from that does not exist
    pub chosen_stuck : (n : ℕ) → Finds script c p vs before (communications types bs (InputFrom n e ∷ fs) (set ∷ sets)) (Err why)
    chosen_stuck n = by_fault why none
      where
        by_fault : (f : NoValue) → Sees {A = A} (Err f) (value types (put_expression bs e)) → Finds script c p vs before (communications types bs (InputFrom n e ∷ fs) (set ∷ sets)) (Err f)
        by_fault eval.Memory is = tt
        by_fault (eval.Cause d) is = ap (λ r. (r and_then λ v. members_of v) and_then λ us. each_list (behind_input n) (filter (λ v. pure.has_value set v) us)) is

  module _ (e : Expression) (v : pure.Value) (is : value types (put_expression bs e) ≡ Ok v) where
    -- a given value in its field set
    pub given_within : pure.has_value set v ≡ true → communications types bs (Given e ∷ fs) (set ∷ sets) ≡ (communications types bs fs sets and_then λ ms. Ok (with_value v ms))
    given_within within =
        ap (λ r. r and_then λ w. in_field_set set w and_then λ u. communications types bs fs sets and_then λ ms. Ok (with_value w ms)) is
        ∙ ap (λ b. cond b (Ok v) (Err OutOfRange) and_then λ u. communications types bs fs sets and_then λ ms. Ok (with_value v ms)) within

    -- the set to choose from
    pub chosen_from : (n : ℕ) (us : List pure.Value) → members_of v ≡ Ok us → communications types bs (InputFrom n e ∷ fs) (set ∷ sets) ≡ each_list (behind_input n) (filter (λ w. pure.has_value set w) us)
    chosen_from n us has =
        ap (λ r. (r and_then λ w. members_of w) and_then λ ws. each_list (behind_input n) (filter (λ w. pure.has_value set w) ws)) is
        ∙ ap (λ r. r and_then λ ws. each_list (behind_input n) (filter (λ w. pure.has_value set w) ws)) has

    pub chosen_from_none : (n : ℕ) → members_of v ≡ Err IllKinded → communications types bs (InputFrom n e ∷ fs) (set ∷ sets) ≡ Err IllKinded
    chosen_from_none n none =
        ap (λ r. (r and_then λ w. members_of w) and_then λ ws. each_list (behind_input n) (filter (λ w. pure.has_value set w) ws)) is
        ∙ ap (λ r. r and_then λ ws. each_list (behind_input n) (filter (λ w. pure.has_value set w) ws)) none

-- ---- where the fields and the sets end

pub ended_sets : (types : Types) (bs : Bindings) (fs : List Field) (sets : List (List pure.Value)) → fs ≡ [] → (length sets ≡ 0 → ⊥) → communications types bs fs sets ≡ Err IllKinded
ended_sets types bs fs [] is some = absurd (some refl)
ended_sets types bs fs (s ∷ sets) is some = ap (λ gs. communications types bs gs (s ∷ sets)) is

pub ended_fields : (types : Types) (bs : Bindings) (fs : List Field) (sets : List (List pure.Value)) → (length fs ≡ 0 → ⊥) → sets ≡ [] → communications types bs fs sets ≡ Err IllKinded
ended_fields types bs [] sets some is = absurd (some refl)
ended_fields types bs (f ∷ fs) sets some is = ap (communications types bs (f ∷ fs)) is ∙ at_end f
  where
    at_end : (g : Field) → communications types bs (g ∷ fs) [] ≡ Err IllKinded
    at_end (Given e) = refl
    at_end (Input n) = refl
    at_end (InputFrom n e) = refl

-- ---- one more value of a list

module _ {A : Type 0} (items : List (Value A)) (i : ℕ) (item : Value A) (within : i < length items) (read : item ≡ get_or items i item) where
  pub values_more : values_of (take (i + 1) items) ≡ values_of (take i items) ++ value_of item ∷ []
  values_more = ap values_of (take_more items i item within ∙ ap (λ z. take i items ++ z ∷ []) (sym read)) ∙ map-append value_of (take i items) (item ∷ [])

  pub values_split : values_of items ≡ values_of (take i items) ++ value_of item ∷ values_of (drop (i + 1) items)
  values_split =
      ap values_of (sym (take-append-drop i items) ∙ ap (λ zs. take i items ++ zs) (drop_more items i item within ∙ ap (λ z. z ∷ drop (i + 1) items) (sym read)))
      ∙ map-append value_of (take i items) (item ∷ drop (i + 1) items)

  module _ (test : pure.Value → Bool) where
    pub chosen_more : test (value_of item) ≡ true → filter test (values_of (take (i + 1) items)) ≡ filter test (values_of (take i items)) ++ value_of item ∷ []
    chosen_more passes = ap (filter test) values_more ∙ filter-append test (values_of (take i items)) (value_of item ∷ []) ∙ ap (λ b. filter test (values_of (take i items)) ++ cond b (value_of item ∷ []) []) passes

    pub chosen_same : test (value_of item) ≡ false → filter test (values_of (take (i + 1) items)) ≡ filter test (values_of (take i items))
    chosen_same fails =
        ap (filter test) values_more ∙ filter-append test (values_of (take i items)) (value_of item ∷ []) ∙ ap (λ b. filter test (values_of (take i items)) ++ cond b (value_of item ∷ []) []) fails
        ∙ append-nil (filter test (values_of (take i items)))

    pub chosen_split : test (value_of item) ≡ true → filter test (values_of items) ≡ filter test (values_of (take i items)) ++ value_of item ∷ filter test (values_of (drop (i + 1) items))
    chosen_split passes =
        ap (filter test) values_split ∙ filter-append test (values_of (take i items)) (value_of item ∷ values_of (drop (i + 1) items))
        ∙ ap (λ b. filter test (values_of (take i items)) ++ cond b (value_of item ∷ filter test (values_of (drop (i + 1) items))) (filter test (values_of (drop (i + 1) items)))) passes
