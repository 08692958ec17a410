-- The communications of fields with values put in are those over the bindings of these values.
use Rattle.std.proofs.Common.{◌≡◌, ℕ, List, [], ◌∷◌, ◌++◌, filter, Some, Result, Ok, Err, refl, sym, ◌∙◌, ap, ap₂}
use Rattle.std.specs.Result.{result_err}
use Rattle.theory_syntax.specs.Value.{Value, Ev, has_value}
use Rattle.theory_syntax.specs.Expression.{Expression}
use Rattle.theory_syntax.specs.Process.{Field, Given, Input, InputFrom, Process}
use Rattle.theory_syntax.specs.Types.{Types}
use Rattle.theory_semantics.specs.Meaning.Evaluation.{Cause, ◌and_then◌, in_field_set, value}
use Rattle.theory_semantics.specs.Meaning.Events.{Communication, communications, each_list, elements, with_value}
use Rattle.theory_semantics.specs.Meaning.Stepping.{Steps, communication_steps}
use Rattle.theory_semantics.specs.Meaning.Substitution.{Bindings, behind, bind, put, put_expression, put_fields, without}
use Rattle.csp_steps.proofs.Twice.{IsBoth, both_bound, put_twice, put_twice_in_expression}

-- the values of a communication, and what the process goes on as
abbrev pub Reached : Type 0
Reached = List Value × Process

abbrev pub reached : Process → List Communication → List Reached
reached p [] = []
reached p (m ∷ ms) = (m.values, put m.bindings p) ∷ reached p ms

abbrev pub reaching : Process → Result (List Communication) Cause → Result (List Reached) Cause
reaching p r = r and_then λ ms. Ok (reached p ms)

abbrev with_first : Value → List Reached → List Reached
with_first v [] = []
with_first v (t ∷ ts) = (v ∷ t.0, t.1) ∷ with_first v ts

-- ---- what is reached along the definitions' steps

reached_both : (p : Process) (ms ns : List Communication) → reached p (ms ++ ns) ≡ reached p ms ++ reached p ns
reached_both p [] ns = refl
reached_both p (m ∷ ms) ns = ap (λ ts. (m.values, put m.bindings p) ∷ ts) (reached_both p ms ns)

reached_with : (p : Process) (v : Value) (ms : List Communication) → reached p (with_value v ms) ≡ with_first v (reached p ms)
reached_with p v [] = refl
reached_with p v (m ∷ ms) = ap (λ ts. (v ∷ m.values, put m.bindings p) ∷ ts) (reached_with p v ms)

reaching_with : (p : Process) (v : Value) (r : Result (List Communication) Cause) → reaching p (r and_then λ ms. Ok (with_value v ms)) ≡ (reaching p r and_then λ ts. Ok (with_first v ts))
reaching_with p v (Ok ms) = ap Ok (reached_with p v ms)
reaching_with p v (Err c) = refl

reaching_both : (p : Process) (r s : Result (List Communication) Cause) → reaching p (r and_then λ ms. s and_then λ ns. Ok (ms ++ ns)) ≡ (reaching p r and_then λ ts. reaching p s and_then λ us. Ok (ts ++ us))
reaching_both p (Ok ms) (Ok ns) = ap Ok (reached_both p ms ns)
reaching_both p (Ok ms) (Err c) = refl
reaching_both p (Err c) s = refl

module _ (q p : Process) where
  -- two rests that reach the same do so behind a value
  same_with : (v : Value) (r s : Result (List Communication) Cause) → reaching q r ≡ reaching p s → reaching q (r and_then λ ms. Ok (with_value v ms)) ≡ reaching p (s and_then λ ms. Ok (with_value v ms))
  same_with v r s same = reaching_with q v r ∙ ap (λ t. t and_then λ ts. Ok (with_first v ts)) same ∙ sym (reaching_with p v s)

  -- and over a list of values
  same_each : (f g : Value → Result (List Communication) Cause) → ((v : Value) → reaching q (f v) ≡ reaching p (g v)) → (vs : List Value) → reaching q (each_list f vs) ≡ reaching p (each_list g vs)
  same_each f g same [] = refl
  same_each f g same (v ∷ vs) =
      reaching_both q (f v) (each_list f vs) ∙ ap₂ (λ r s. r and_then λ ts. s and_then λ us. Ok (ts ++ us)) (same v) (same_each f g same vs) ∙ sym (reaching_both p (g v) (each_list g vs))

-- ---- all fields

module _ (types : Types) where
  -- what fields with both lists put in reach
  abbrev SameFor : Bindings → Bindings → Bindings → List Field → List (List Value) → Process → Type 0
  SameFor bs cs ds fs sets p = reaching (put (behind bs fs) p) (communications types cs (put_fields bs fs) sets) ≡ reaching p (communications types ds fs sets)

  no_sets : (bs cs ds : Bindings) (f : Field) (fs : List Field) (p : Process) → SameFor bs cs ds (f ∷ fs) [] p
  no_sets bs cs ds (Given e) fs p = refl
  no_sets bs cs ds (Input n) fs p = refl
  no_sets bs cs ds (InputFrom n e) fs p = refl

  pub same_communications : (bs cs ds : Bindings) → IsBoth bs cs ds → (fs : List Field) (sets : List (List Value)) (p : Process) → SameFor bs cs ds fs sets p
  same_communications bs cs ds both [] [] p = ap (λ u. Ok (([], u) ∷ [])) (put_twice bs cs ds both p)
  same_communications bs cs ds both [] (set ∷ sets) p = refl
  same_communications bs cs ds both (f ∷ fs) [] p = no_sets bs cs ds f fs p
  same_communications bs cs ds both (Given e ∷ fs) (set ∷ sets) p =
      let q = put (behind bs fs) p in
      let given : Expression → Bindings → List Field → Result (List Communication) Cause = λ d es gs. value types d and_then λ v. in_field_set set v and_then λ w. communications types es gs sets and_then λ ms. Ok (with_value v ms) in
      ap (λ d. reaching q (given d cs (put_fields bs fs))) (put_twice_in_expression bs cs ds both e) ∙ by_value (value types (put_expression ds e)) (same_communications bs cs ds both fs sets p)
    where
      by_set : (v : Value) (r : Result Value Cause) → SameFor bs cs ds fs sets p →
          reaching (put (behind bs fs) p) (r and_then λ w. communications types cs (put_fields bs fs) sets and_then λ ms. Ok (with_value v ms)) ≡ reaching p (r and_then λ w. communications types ds fs sets and_then λ ms. Ok (with_value v ms))
      by_set v (Ok w) same = same_with (put (behind bs fs) p) p v (communications types cs (put_fields bs fs) sets) (communications types ds fs sets) same
      by_set v (Err c) same = refl

      by_value : (r : Result Value Cause) → SameFor bs cs ds fs sets p →
          reaching (put (behind bs fs) p) (r and_then λ v. in_field_set set v and_then λ w. communications types cs (put_fields bs fs) sets and_then λ ms. Ok (with_value v ms))
          ≡ reaching p (r and_then λ v. in_field_set set v and_then λ w. communications types ds fs sets and_then λ ms. Ok (with_value v ms))
      by_value (Ok v) same = by_set v (in_field_set set v) same
      by_value (Err c) same = refl
  same_communications bs cs ds both (Input n ∷ fs) (set ∷ sets) p =
      let q = put (behind (without n bs) fs) p in
      same_each q p (λ v. communications types (bind n v cs) (put_fields (without n bs) fs) sets and_then λ ms. Ok (with_value v ms)) (λ v. communications types (bind n v ds) fs sets and_then λ ms. Ok (with_value v ms))
      (λ v. same_with q p v (communications types (bind n v cs) (put_fields (without n bs) fs) sets) (communications types (bind n v ds) fs sets)
      (same_communications (without n bs) (bind n v cs) (bind n v ds) (both_bound n v bs cs ds both) fs sets p)) set
  same_communications bs cs ds both (InputFrom n e ∷ fs) (set ∷ sets) p =
      let q = put (behind (without n bs) fs) p in
      let f : Value → Result (List Communication) Cause = λ v. communications types (bind n v cs) (put_fields (without n bs) fs) sets and_then λ ms. Ok (with_value v ms) in
      let g : Value → Result (List Communication) Cause = λ v. communications types (bind n v ds) fs sets and_then λ ms. Ok (with_value v ms) in
      ap (λ d. reaching q (elements types d and_then λ vs. each_list f (filter (λ v. has_value set v) vs))) (put_twice_in_expression bs cs ds both e)
      ∙ by_elements q f g (elements types (put_expression ds e))
      (same_each q p f g (λ v. same_with q p v (communications types (bind n v cs) (put_fields (without n bs) fs) sets) (communications types (bind n v ds) fs sets)
      (same_communications (without n bs) (bind n v cs) (bind n v ds) (both_bound n v bs cs ds both) fs sets p)))
    where
      by_elements : (q : Process) (f g : Value → Result (List Communication) Cause) (r : Result (List Value) Cause) → ((vs : List Value) → reaching q (each_list f vs) ≡ reaching p (each_list g vs)) →
          reaching q (r and_then λ vs. each_list f (filter (λ v. has_value set v) vs)) ≡ reaching p (r and_then λ vs. each_list g (filter (λ v. has_value set v) vs))
      by_elements q f g (Ok vs) same = same (filter (λ v. has_value set v) vs)
      by_elements q f g (Err c) same = refl

-- ---- the steps

-- steps hang on what is reached alone
abbrev reached_steps : ℕ → List Reached → Steps
reached_steps c [] = []
reached_steps c (t ∷ ts) = (Ev (record { channel = c; fields = t.0 }), t.1) ∷ reached_steps c ts

steps_reached : (c : ℕ) (p : Process) (ms : List Communication) → communication_steps c p ms ≡ reached_steps c (reached p ms)
steps_reached c p [] = refl
steps_reached c p (m ∷ ms) = ap (λ ss. (Ev (record { channel = c; fields = m.values }), put m.bindings p) ∷ ss) (steps_reached c p ms)

abbrev list_in : Result (List Reached) Cause → List Reached
list_in (Ok ts) = ts
list_in (Err e) = []

module _ (c : ℕ) (q p : Process) where
  -- what reaches the same as an answer answers communications with the same steps
  pub same_steps : (r : Result (List Communication) Cause) (ns : List Communication) → reaching q r ≡ Ok (reached p ns) → (ms : List Communication) × (r ≡ Ok ms) × (communication_steps c q ms ≡ communication_steps c p ns)
  same_steps (Ok ms) ns same = (ms, refl, steps_reached c q ms ∙ ap (λ r. reached_steps c (list_in r)) same ∙ sym (steps_reached c p ns))
  same_steps (Err e) ns same = absurd (cc same)

  pub same_cause : (r : Result (List Communication) Cause) (e : Cause) → reaching q r ≡ Err e → r ≡ Err e
  same_cause (Ok ms) e same = absurd (cc same)
  same_cause (Err d) e same = let k : Some d ≡ Some e = ap result_err same in let j : d ≡ e = cc k in ap Err j
