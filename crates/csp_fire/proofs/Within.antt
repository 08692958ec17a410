-- The steps so far, where none led past the limits.
use Rattle.std.proofs.Common.{◌≡◌, ℕ, ◌+◌, ◌<◌, List, [], ◌∷◌, ◌++◌, length, map, drop, get_or, Option, Some, None, refl, sym, ◌∙◌, ap}
use Rattle.std.proofs.lemmas.List.{append-nil, append_assoc, drop_more, map-append}
use Rattle.std.specs.Option.{option_map}
use Rattle.theory_semantics.specs.Meaning.Stepping.{Steps}
use Rattle.csp_value.specs.Action.{action_of}
use Rattle.csp_fire.specs.declared.form.Step.{Step}
use Rattle.csp_steps.specs.declared.rule_step.RuleStep.{RuleStep}
use Rattle.csp_steps.specs.Answering.{all_within, answered_of, target_of}
use Rattle.csp_fire.specs.Form.{step_of}

-- the steps so far and those of what is left are all
abbrev pub WithinSoFar : {A : Type 0} → List (RuleStep A) → ℕ → List (Step A) → Type 0
WithinSoFar items i steps = option_map (λ ss. map step_of steps ++ ss) (all_within (map answered_of (drop i items))) ≡ all_within (map answered_of items)

-- nothing was looked at
pub none_yet : {A : Type 0} (items : List (RuleStep A)) (steps : List (Step A)) → steps ≡ [] → WithinSoFar items 0 steps
none_yet items steps empty = ap (λ ss. option_map (λ us. map step_of ss ++ us) (all_within (map answered_of items))) empty ∙ same (all_within (map answered_of items))
  where
    same : (r : Option Steps) → option_map (λ us. us) r ≡ r
    same None = refl
    same (Some us) = refl

module _ {A : Type 0} (items : List (RuleStep A)) (i : ℕ) (step : RuleStep A) (in_range : i < length items) (read : step ≡ get_or items i step) (steps : List (Step A)) (so_far : WithinSoFar items i steps) where
  left : drop i items ≡ step ∷ drop (i + 1) items
  left = drop_more items i step in_range ∙ ap (λ z. z ∷ drop (i + 1) items) (sym read)

  -- one more is within the limits
  pub one_within : (more : List (Step A)) (s : Step A) → answered_of step ≡ ((step_of s).0, Some (step_of s).1) → more ≡ steps ++ s ∷ [] → WithinSoFar items (i + 1) more
  one_within more s is pushed =
      let rest = map answered_of (drop (i + 1) items) in
      ap (λ ss. option_map (λ us. map step_of ss ++ us) (all_within rest)) pushed ∙ by_rest (all_within rest)
      ∙ ap (λ a. option_map (λ us. map step_of steps ++ us) (all_within (a ∷ rest))) (sym is)
      ∙ ap (λ xs. option_map (λ us. map step_of steps ++ us) (all_within (map answered_of xs))) (sym left) ∙ so_far
    where
      by_rest : (r : Option Steps) → option_map (λ us. map step_of (steps ++ s ∷ []) ++ us) r ≡ option_map (λ us. map step_of steps ++ us) (option_map (λ us. step_of s ∷ us) r)
      by_rest None = refl
      by_rest (Some us) = ap Some (ap (λ ss. ss ++ us) (map-append step_of steps (s ∷ [])) ∙ append_assoc (map step_of steps) (step_of s ∷ []) us)

  -- or leads past them
  pub one_past : target_of step.target ≡ None → None ≡ all_within (map answered_of items)
  one_past is =
      let rest = map answered_of (drop (i + 1) items) in
      ap (λ t. option_map (λ us. map step_of steps ++ us) (all_within ((action_of step.action, t) ∷ rest))) (sym is)
      ∙ ap (λ xs. option_map (λ us. map step_of steps ++ us) (all_within (map answered_of xs))) (sym left) ∙ so_far

-- nothing is left
pub all_done : {A : Type 0} (items : List (RuleStep A)) (i : ℕ) (steps : List (Step A)) → drop i items ≡ [] → WithinSoFar items i steps → Some (map step_of steps) ≡ all_within (map answered_of items)
all_done items i steps done so_far =
    ap Some (sym (append-nil (map step_of steps))) ∙ ap (λ xs. option_map (λ us. map step_of steps ++ us) (all_within (map answered_of xs))) (sym done) ∙ so_far
