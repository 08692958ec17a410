-- The steps that are left of a path, with the states behind them.
use Rattle.std.proofs.Common.{◌≡◌, ℕ, zero, suc, ◌+◌, ◌≤◌, true, false, List, [], ◌∷◌, ◌++◌, length, drop, slice_get, Option, Some, None, refl, sym, add-one}
use Rattle.std.proofs.lemmas.List.{drop_all}
use Rattle.theory_syntax.specs.Value.{Action}
use Rattle.theory_syntax.specs.Process.{Process}
use Rattle.theory_syntax.proofs.Places.{drop_at}
use Rattle.theory_origins.specs.Origin.{Origin}
use Rattle.theory_explanation.specs.Counterparts.{specification_text}
use Rattle.theory_explanation.specs.Folding.{folded, is_folded, state_behind}
use Rattle.theory_explanation.specs.PartNames.{PartName, part_names_behind}
use Rattle.theory_explanation.specs.Steps.{beside_text, first_text, path_text, step_text, steps_text, told_run}
use Rattle.theory_explanation.specs.Styles.{Style}

drop_past : {X : Type 0} (xs : List X) (i : ℕ) → slice_get xs i ≡ None → drop i xs ≡ []
drop_past [] zero at = refl
drop_past [] (suc i) at = refl
drop_past (y ∷ ys) zero at = absurd (cc at)
drop_past (y ∷ ys) (suc i) at = drop_past ys i at

-- all but one more
drop_one : {X : Type 0} (i : ℕ) (xs : List X) → drop 1 (drop i xs) ≡ drop (suc i) xs
drop_one zero xs = refl
drop_one (suc i) [] = refl
drop_one (suc i) (x ∷ xs) = drop_one i xs

module _ (style : Style) where
  -- ---- the states of a specification

  pub first_there : (along : List (List Process)) (i : ℕ) (us : List Process) → slice_get along i ≡ Some us → first_text style (drop i along) ≡ specification_text style.names style.width style.few us
  first_there along i us at = rw (drop_at along i us at) refl

  pub none_there : (along : List (List Process)) (i : ℕ) → slice_get along i ≡ None → first_text style (drop i along) ≡ []
  none_there along i at = rw (drop_past along i at) refl

  -- ---- the start

  pub path_first : (path : List Action) (t : Process) (states : List Process) (origins : List (Option Origin)) (along : List (List Process)) → slice_get states 0 ≡ Some t →
      path_text style path states origins along ≡ told_run style.telling style path t (drop 1 states) origins along
  path_first path t [] origins along at = absurd (cc at)
  path_first path t (u ∷ states) origins along at = let same : Some u ≡ Some t = at in let is : u ≡ t = cc same in rw (sym is) refl

  pub path_none : (path : List Action) (states : List Process) (origins : List (Option Origin)) (along : List (List Process)) → slice_get states 0 ≡ None → path_text style path states origins along ≡ []
  path_none path [] origins along at = refl
  path_none path (t ∷ states) origins along at = absurd (cc at)

  -- ---- steps

  without_states : (n : ℕ) (told : Process) (parts : List PartName) (path : List Action) (origins : List (Option Origin)) (along : List (List Process)) → steps_text style n told parts path [] origins along ≡ []
  without_states n told parts [] origins along = refl
  without_states n told parts (x ∷ path) origins along = refl

  without_origins : (n : ℕ) (told : Process) (parts : List PartName) (path : List Action) (states : List Process) (along : List (List Process)) → steps_text style n told parts path states [] along ≡ []
  without_origins n told parts [] states along = refl
  without_origins n told parts (x ∷ path) [] along = refl
  without_origins n told parts (x ∷ path) (t ∷ states) along = refl

  -- the steps from this place on, behind the state that was told last, where parts have such names
  abbrev pub steps_left : List Action → List Process → List (Option Origin) → List (List Process) → ℕ → Process → List PartName → List ℕ
  steps_left path states origins along i told parts = steps_text style (suc i) told parts (drop i path) (drop i states) (drop i origins) (drop (suc i) along)

  module _ (path : List Action) (states : List Process) (origins : List (Option Origin)) (along : List (List Process)) (i : ℕ) (told : Process) (parts : List PartName) where
    -- the names that are told with the step, and the state behind them
    abbrev pub names_with : List ℕ
    names_with = folded style.telling (drop (i + 1) origins)

    abbrev pub state_with : Process → Process
    state_with t = state_behind (length names_with) t (drop (i + 1) states)

    module _ (x : Action) (t : Process) (o : Option Origin) (p : slice_get path i ≡ Some x) (at : slice_get states i ≡ Some t) (from : slice_get origins i ≡ Some o) where
      pub step_left : is_folded style.telling o ≡ false →
          steps_left path states origins along i told parts
          ≡ step_text style (i + 1) told parts x o names_with (drop (length names_with) (drop (i + 1) path)) (state_with t)
          ++ (beside_text style x (drop (i + 1) along) ++ steps_left path states origins along (i + 1) (state_with t) (part_names_behind parts o))
      step_left alone = rw (add-one, drop_at path i x p, drop_at states i t at, drop_at origins i o from, alone, ← drop_one (suc i) along) refl

      pub step_folded : is_folded style.telling o ≡ true →
          steps_left path states origins along i told parts ≡ steps_left path states origins along (i + 1) told (part_names_behind parts o)
      step_folded with_it = rw (add-one, drop_at path i x p, drop_at states i t at, drop_at origins i o from, with_it, ← drop_one (suc i) along) refl

    pub no_state_left : slice_get states i ≡ None → steps_left path states origins along i told parts ≡ []
    no_state_left none = rw (drop_past states i none) (without_states (suc i) told parts (drop i path) (drop i origins) (drop (suc i) along))

    pub no_origin_left : slice_get origins i ≡ None → steps_left path states origins along i told parts ≡ []
    no_origin_left none = rw (drop_past origins i none) (without_origins (suc i) told parts (drop i path) (drop i states) (drop (suc i) along))

    pub no_step_left : length path ≤ i → steps_left path states origins along i told parts ≡ []
    no_step_left past = rw (drop_all i path past) refl
