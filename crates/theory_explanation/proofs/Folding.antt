-- The state behind some steps, the names that they unfold, and their events.
use Rattle.std.proofs.Common.{◌≡◌, ℕ, zero, suc, ◌+◌, ◌-◌, ◌<◌, ◌≤◌, true, false, List, [], ◌∷◌, ◌++◌, length, take, drop, slice_get, Option, Some, None, refl, ◌∙◌, ap, add-one, arith}
use Rattle.std.proofs.lemmas.List.{drop_all}
use Rattle.std.proofs.lemmas.Option.{slice_get_within}
use Rattle.theory_syntax.specs.Value.{Action}
use Rattle.theory_syntax.specs.Process.{Process}
use Rattle.theory_syntax.proofs.Places.{drop_at}
use Rattle.theory_origins.specs.Origin.{Origin}
use Rattle.theory_notation.specs.Names.{Names}
use Rattle.theory_notation.specs.Processes.{process_text}
use Rattle.theory_explanation.specs.Cutting.{Width}
use Rattle.theory_explanation.specs.Folding.{Hiding, Other, Unfolding, before_others, is_event, kind_told, state_behind, unfoldings}
use Rattle.theory_explanation.specs.Legend.{legend}
use Rattle.theory_explanation.specs.PartNames.{PartName, part_names_behind}
use Rattle.theory_explanation.specs.Steps.{events_text, last_line, state_line, step_line, width_before}

-- the last of some states, behind another one
abbrev last_of : Process → List Process → Process
last_of t [] = t
last_of t (u ∷ us) = last_of u us

behind_is_last : (n : ℕ) (t : Process) (us : List Process) → state_behind n t us ≡ last_of t (take n us)
behind_is_last zero t us = refl
behind_is_last (suc n) t [] = refl
behind_is_last (suc n) t (u ∷ us) = behind_is_last n u us

last_at : (t u : Process) (us : List Process) (k : ℕ) → k + 1 ≡ length us → slice_get us k ≡ Some u → last_of t us ≡ u
last_at t u [] k long at = absurd (omega (arith, long))
last_at t u (v ∷ []) zero long at = let same : Some v ≡ Some u = at in cc same
last_at t u (v ∷ []) (suc k) long at = absurd (omega (arith, long))
last_at t u (v ∷ w ∷ us) zero long at = absurd (omega (arith, long))
last_at t u (v ∷ w ∷ us) (suc k) long at = last_at v u (w ∷ us) k (omega (arith, long)) at

last_read : (t u : Process) (us : List Process) → slice_get us (length us - 1) ≡ Some u → last_of t us ≡ u
last_read t u us at = let within = slice_get_within us (length us - 1) u at in last_at t u us (length us - 1) (omega (arith, within)) at

none_long : (us : List Process) (k : ℕ) → slice_get us k ≡ None → length us ≤ k
none_long [] k at = omega arith
none_long (v ∷ us) zero at = let some : Some v ≡ None = at in absurd (cc some)
none_long (v ∷ us) (suc k) at = let rest = none_long us k at in omega (arith, rest)

none_of : (t : Process) (us : List Process) → length us ≤ length us - 1 → last_of t us ≡ t
none_of t [] short = refl
none_of t (v ∷ us) short = absurd (omega (arith, short))

none_read : (t : Process) (us : List Process) → slice_get us (length us - 1) ≡ None → last_of t us ≡ t
none_read t us at = none_of t us (none_long us (length us - 1) at)

module _ (n : ℕ) (t : Process) (us : List Process) where
  -- the state behind so many steps is the last of as many states
  pub last_behind : (u : Process) → slice_get (take n us) (length (take n us) - 1) ≡ Some u → state_behind n t us ≡ u
  last_behind u at = behind_is_last n t us ∙ last_read t u (take n us) at

  pub none_behind : slice_get (take n us) (length (take n us) - 1) ≡ None → state_behind n t us ≡ t
  none_behind at = behind_is_last n t us ∙ none_read t (take n us) at

-- the last line is that of the state behind all steps
pub last_is : (names : Names) (t : Process) (us : List Process) → last_line names t us ≡ state_line (process_text names (state_behind (length us) t us))
last_is names t [] = refl
last_is names t (u ∷ us) = last_is names u us

-- where something of a path is left, the width is as it was
pub width_left : (w : Width) (n : ℕ) (path : List Action) → n < length path → width_before w (drop n path) ≡ w
width_left w n [] more = absurd (omega (arith, more))
width_left w zero (x ∷ path) more = refl
width_left w (suc n) (x ∷ path) more = width_left w n path (omega (arith, more))

-- ---- names that are unfolded

module _ (origins : List (Option Origin)) (i : ℕ) (o : Option Origin) (at : slice_get origins i ≡ Some o) where
  one_left : unfoldings (drop i origins) ≡ before_others (kind_told o) (unfoldings (drop (i + 1) origins))
  one_left = rw (add-one, drop_at origins i o at) refl

  pub one_more : (n : ℕ) → kind_told o ≡ Unfolding n → unfoldings (drop i origins) ≡ n ∷ unfoldings (drop (i + 1) origins)
  one_more n is = one_left ∙ ap (λ k. before_others k (unfoldings (drop (i + 1) origins))) is

  pub none_at_event : kind_told o ≡ Hiding → unfoldings (drop i origins) ≡ []
  none_at_event is = one_left ∙ ap (λ k. before_others k (unfoldings (drop (i + 1) origins))) is

  pub none_at_other : kind_told o ≡ Other → unfoldings (drop i origins) ≡ []
  none_at_other is = one_left ∙ ap (λ k. before_others k (unfoldings (drop (i + 1) origins))) is

-- ---- events

module _ (names : Names) (path : List Action) (origins : List (Option Origin)) where
  -- the events from this place on, where parts have such names
  abbrev pub events_left : ℕ → List PartName → List ℕ
  events_left i parts = events_text names (suc i) parts (drop i path) (drop i origins)

  module _ (i : ℕ) (parts : List PartName) where
    module _ (x : Action) (o : Option Origin) (p : slice_get path i ≡ Some x) (at : slice_get origins i ≡ Some o) where
      pub event_left : is_event x o ≡ true → events_left i parts ≡ step_line (legend names parts) (i + 1) x o [] ++ events_left (i + 1) (part_names_behind parts o)
      event_left is = rw (add-one, drop_at path i x p, drop_at origins i o at, is) refl

      pub no_event_left : is_event x o ≡ false → events_left i parts ≡ events_left (i + 1) (part_names_behind parts o)
      no_event_left is = rw (add-one, drop_at path i x p, drop_at origins i o at, is) refl

    without : (n : ℕ) (xs : List Action) → events_text names n parts xs [] ≡ []
    without n [] = refl
    without n (x ∷ xs) = refl

    past : {X : Type 0} (xs : List X) (k : ℕ) → slice_get xs k ≡ None → drop k xs ≡ []
    past [] zero none = refl
    past [] (suc k) none = refl
    past (y ∷ ys) zero none = absurd (cc none)
    past (y ∷ ys) (suc k) none = past ys k none

    pub no_origin_there : slice_get origins i ≡ None → events_left i parts ≡ []
    no_origin_there none = rw (past origins i none) (without (suc i) (drop i path))

    pub no_action_there : length path ≤ i → events_left i parts ≡ []
    no_action_there long = rw (drop_all i path long) refl
