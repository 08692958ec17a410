-- What is found along the communications of a list of values, one after the other.
use Rattle.std.proofs.Common.{◌≡◌, ℕ, List, [], ◌∷◌, ◌++◌, map, Result, Ok, Err, refl, sym, ◌∙◌, ap, ap₂, subst}
use Rattle.std.proofs.lemmas.List.{append-nil, append_assoc, map-append}
use Rattle.std.specs.declared.vec.Vec.{Vec}
use Rattle.theory_syntax.specs.Value as pure
use Rattle.theory_syntax.specs.Process.{Process, Script}
use Rattle.theory_semantics.specs.Meaning.Evaluation.{Cause, ◌and_then◌}
use Rattle.theory_semantics.specs.Meaning.Events.{Communication, each_list, with_value}
use Rattle.theory_semantics.specs.Meaning.Stepping.{communication_steps}
use Rattle.theory_semantics.specs.Meaning.Substitution.{put}
use Rattle.csp_steps.specs.declared.rule_step.RuleStep.{RuleStep}
use Rattle.csp_expression.specs.declared.no_value.NoValue.{NoValue}
use Rattle.csp_expression.specs.declared.no_value.NoValue.TheVariants as eval
use Rattle.csp_steps.specs.Answering.{answered_of}
use Rattle.csp_steps.specs.Communicating.{Finds, IsFurther, behind_values, kept_settled}

-- ---- two lists of communications

steps_both : (c : ℕ) (p : Process) (ms ns : List Communication) → communication_steps c p (ms ++ ns) ≡ communication_steps c p ms ++ communication_steps c p ns
steps_both c p [] ns = refl
steps_both c p (m ∷ ms) ns = ap (λ ss. (pure.Ev (record { channel = c; fields = m.values }), put m.bindings p) ∷ ss) (steps_both c p ms ns)

behind_both : (vs : List pure.Value) (ms ns : List Communication) → behind_values vs (ms ++ ns) ≡ behind_values vs ms ++ behind_values vs ns
behind_both vs [] ns = refl
behind_both vs (m ∷ ms) ns = ap (λ ls. record { values = vs ++ m.values; bindings = m.bindings } ∷ ls) (behind_both vs ms ns)

behind_one : (vs : List pure.Value) (v : pure.Value) (ms : List Communication) → behind_values (vs ++ v ∷ []) ms ≡ behind_values vs (with_value v ms)
behind_one vs v [] = refl
behind_one vs v (m ∷ ms) = ap₂ (λ ws ls. record { values = ws; bindings = m.bindings } ∷ ls) (append_assoc vs (v ∷ []) m.values) (behind_one vs v ms)

module _ {A : Type 0} (script : Script) (c : ℕ) (p : Process) where
  nothing_found : (before : Vec (RuleStep A) A) → IsFurther script c p before before []
  nothing_found before = sym (append-nil (map answered_of before.items))

  one_then_other : (before mid after : Vec (RuleStep A) A) (ms ns : List Communication) → IsFurther script c p before mid ms → IsFurther script c p mid after ns → IsFurther script c p before after (ms ++ ns)
  one_then_other before mid after ms ns first second =
      second ∙ ap (λ ss. ss ++ map (kept_settled script) (communication_steps c p ns)) first ∙ append_assoc (map answered_of before.items) (map (kept_settled script) (communication_steps c p ms)) (map (kept_settled script) (communication_steps c p ns))
      ∙ ap (λ ss. map answered_of before.items ++ ss) (sym (map-append (kept_settled script) (communication_steps c p ms) (communication_steps c p ns)) ∙ ap (map (kept_settled script)) (sym (steps_both c p ms ns)))

  module _ (vs : List pure.Value) (v : pure.Value) (r : Result (List Communication) Cause) (before : Vec (RuleStep A) A) where
    -- with one more value before the later ones
    pub with_one : (result : Result (Vec (RuleStep A) A) NoValue) → Finds script c p (vs ++ v ∷ []) before r result → Finds script c p vs before (r and_then λ ms. Ok (with_value v ms)) result
    with_one (Ok after) (ms, is, further) =
        let P : List Communication → Type 0 = λ ls. IsFurther script c p before after ls in
        (with_value v ms, ap (λ q. q and_then λ ls. Ok (with_value v ls)) is, subst P (behind_one vs v ms) further)
    with_one (Err (eval.Cause e)) is = ap (λ q. q and_then λ ls. Ok (with_value v ls)) is
    with_one (Err eval.Memory) is = tt

-- ---- a list of values in turn

module _ (f : pure.Value → Result (List Communication) Cause) where
  over_both : (xs ys : List pure.Value) → each_list f (xs ++ ys) ≡ (each_list f xs and_then λ ms. each_list f ys and_then λ ns. Ok (ms ++ ns))
  over_both [] ys = alone (each_list f ys)
    where
      alone : (r : Result (List Communication) Cause) → r ≡ (r and_then λ ns. Ok ns)
      alone (Ok ns) = refl
      alone (Err c) = refl
  over_both (x ∷ xs) ys = by_first (f x) (over_both xs ys)
    where
      by_last : (ls ms : List Communication) (r : Result (List Communication) Cause) → ((r and_then λ ns. Ok (ms ++ ns)) and_then λ ks. Ok (ls ++ ks)) ≡ (r and_then λ ns. Ok ((ls ++ ms) ++ ns))
      by_last ls ms (Ok ns) = ap Ok (sym (append_assoc ls ms ns))
      by_last ls ms (Err c) = refl

      by_rest : (ls : List Communication) (r : Result (List Communication) Cause) →
          ((r and_then λ ms. each_list f ys and_then λ ns. Ok (ms ++ ns)) and_then λ ks. Ok (ls ++ ks)) ≡ ((r and_then λ ms. Ok (ls ++ ms)) and_then λ ms. each_list f ys and_then λ ns. Ok (ms ++ ns))
      by_rest ls (Ok ms) = by_last ls ms (each_list f ys)
      by_rest ls (Err c) = refl

      by_first : (r : Result (List Communication) Cause) → each_list f (xs ++ ys) ≡ (each_list f xs and_then λ ms. each_list f ys and_then λ ns. Ok (ms ++ ns)) →
          (r and_then λ ls. each_list f (xs ++ ys) and_then λ ks. Ok (ls ++ ks)) ≡ ((r and_then λ ls. each_list f xs and_then λ ms. Ok (ls ++ ms)) and_then λ ms. each_list f ys and_then λ ns. Ok (ms ++ ns))
      by_first (Ok ls) rest = ap (λ r. r and_then λ ks. Ok (ls ++ ks)) rest ∙ by_rest ls (each_list f xs)
      by_first (Err c) rest = refl

  module _ {A : Type 0} (script : Script) (c : ℕ) (p : Process) (vs : List pure.Value) (before : Vec (RuleStep A) A) where
    -- what was found by the values so far
    abbrev pub FoundSoFar : List pure.Value → Vec (RuleStep A) A → Type 0
    FoundSoFar xs now = Finds script c p vs before (each_list f xs) (Ok now)

    pub none_so_far : FoundSoFar [] before
    none_so_far = ([], refl, nothing_found script c p before)

    module _ (xs : List pure.Value) (mid : Vec (RuleStep A) A) (so_far : FoundSoFar xs mid) (v : pure.Value) where
      -- and by one more
      pub one_further : (after : Vec (RuleStep A) A) → Finds script c p vs mid (f v) (Ok after) → FoundSoFar (xs ++ v ∷ []) after
      one_further after (ns, is, further) =
          let ms = so_far.0 in
          let P : List Communication → Type 0 = λ ls. IsFurther script c p before after ls in
          let last : each_list f (v ∷ []) ≡ Ok ns = ap (λ r. r and_then λ ls. Ok (ls ++ [])) is ∙ ap Ok (append-nil ns) in (
            ms ++ ns,
            over_both xs (v ∷ []) ∙ ap (λ r. r and_then λ ls. each_list f (v ∷ []) and_then λ ks. Ok (ls ++ ks)) so_far.1 ∙ ap (λ r. r and_then λ ks. Ok (ms ++ ks)) last,
            subst P (sym (behind_both vs ms ns)) (one_then_other script c p before mid after (behind_values vs ms) (behind_values vs ns) so_far.2 further),
          )

      -- or the first cause
      pub stopped_at : (ys : List pure.Value) (why : NoValue) → Finds script c p vs mid (f v) (Err why) → Finds script c p vs before (each_list f (xs ++ v ∷ ys)) (Err why)
      stopped_at ys (eval.Cause e) is =
          over_both xs (v ∷ ys) ∙ ap (λ r. r and_then λ ls. each_list f (v ∷ ys) and_then λ ks. Ok (ls ++ ks)) so_far.1
          ∙ ap (λ r. (r and_then λ ls. each_list f ys and_then λ ks. Ok (ls ++ ks)) and_then λ ks. Ok (so_far.0 ++ ks)) is
      stopped_at ys eval.Memory is = tt
