-- One more action at the end of actions that are taken once.
use Rattle.std.proofs.Common.{◌≡◌, ℕ, ◌+◌, ◌-◌, ◌<◌, suc, Bool, true, false, cond, List, [], ◌∷◌, ◌++◌, length, map, take, get_or, Some, None, refl, sym, ◌∙◌, ap, arith}
use Rattle.std.proofs.lemmas.List.{take_more, map-append}
use Rattle.std.specs.List.{slice_get}
use Rattle.theory_syntax.specs.Value.{Action, action_eq}
use Rattle.theory_syntax.specs.Process.{Process}
use Rattle.csp_value.proofs.Sameness.{Tells}
use Rattle.csp_steps.proofs.Telling.{eq_of}
use Rattle.csp_fire.specs.Offering.{actions_of, actions_once, behind_action}

abbrev last_from : Action → List Action → Action
last_from x [] = x
last_from x (y ∷ ys) = last_from y ys

-- the list and the action, unless that is the last one again
abbrev with_last : List Action → Action → List Action
with_last [] z = z ∷ []
with_last (x ∷ xs) z = cond (action_eq (last_from x xs) z) (x ∷ xs) (x ∷ xs ++ z ∷ [])

cond_under : (b : Bool) (y : Action) (xs zs : List Action) → y ∷ cond b xs zs ≡ cond b (y ∷ xs) (y ∷ zs)
cond_under true y xs zs = refl
cond_under false y xs zs = refl

abbrev More : Action → Action → List Action → Type 0
More x z ys = behind_action x (ys ++ z ∷ []) ≡ cond (action_eq (last_from x (behind_action x ys)) z) (behind_action x ys) (behind_action x ys ++ z ∷ [])

behind_more : (x z : Action) (ys : List Action) → More x z ys
behind_more x z [] = refl
behind_more x z (y ∷ ys) = by_test (action_eq x y) refl (behind_more x z ys) (behind_more y z ys)
  where
    by_test : (b : Bool) → action_eq x y ≡ b → More x z ys → More y z ys → More x z (y ∷ ys)
    by_test true is one other = rw is one
    by_test false is one other =
        rw is (ap (λ zs. y ∷ zs) other ∙ cond_under (action_eq (last_from y (behind_action y ys)) z) y (behind_action y ys) (behind_action y ys ++ z ∷ []))

once_more : (xs : List Action) (z : Action) → actions_once (xs ++ z ∷ []) ≡ with_last (actions_once xs) z
once_more [] z = refl
once_more (x ∷ xs) z = ap (λ zs. x ∷ zs) (behind_more x z xs) ∙ cond_under (action_eq (last_from x (behind_action x xs)) z) x (behind_action x xs) (behind_action x xs ++ z ∷ [])

last_read : {X : Type 0} (meaning : X → Action) (x : X) (xs : List X) (l : X) → slice_get (x ∷ xs) (length xs) ≡ Some l → last_from (meaning x) (map meaning xs) ≡ meaning l
last_read meaning x [] l read = ap meaning (cc read)
last_read meaning x (y ∷ ys) l read = last_read meaning y ys l read

one_less : (n : ℕ) → suc n - 1 ≡ n
one_less n = omega arith

-- the last of the actions that were taken
module _ {X : Type 0} (meaning : X → Action) (z : Action) where
  none_yet : (xs : List X) → slice_get xs (length xs - 1) ≡ None → with_last (map meaning xs) z ≡ map meaning xs ++ z ∷ []
  none_yet [] read = refl
  none_yet (x ∷ xs) read = absurd (nothing x xs (ap (slice_get (x ∷ xs)) (sym (one_less (length xs))) ∙ read))
    where
      nothing : (x : X) (xs : List X) → slice_get (x ∷ xs) (length xs) ≡ None → ⊥
      nothing x [] e = cc e
      nothing x (y ∷ ys) e = nothing y ys e

  by_last : (xs : List X) (l : X) (b : Bool) → slice_get xs (length xs - 1) ≡ Some l → action_eq (meaning l) z ≡ b → with_last (map meaning xs) z ≡ cond b (map meaning xs) (map meaning xs ++ z ∷ [])
  by_last [] l b read is = absurd (cc read)
  by_last (x ∷ xs) l b read is =
      ap (λ c. cond c (map meaning (x ∷ xs)) (map meaning (x ∷ xs) ++ z ∷ []))
      (ap (λ w. action_eq w z) (last_read meaning x xs l (ap (slice_get (x ∷ xs)) (sym (one_less (length xs))) ∙ read)) ∙ is)

-- the actions of the steps so far, and of one more
module _ {S X : Type 0} {test : X → X → Bool} (meaning : X → Action) (told : Tells test meaning) (doing : S → Action × Process) (steps : List S) (i : ℕ) (s : S) (x : X) (within : i < length steps) (read : s ≡ get_or steps i s) (acts : meaning x ≡ (doing s).0) (taken : List X) (so_far : map meaning taken ≡ actions_of (map doing (take i steps))) where
  longer : actions_of (map doing (take (i + 1) steps)) ≡ with_last (map meaning taken) (meaning x)
  longer =
      let prefix = map (λ u. u.0) (map doing (take i steps)) in
      ap (λ ss. actions_of (map doing ss)) (take_more steps i s within ∙ ap (λ u. take i steps ++ u ∷ []) (sym read))
      ∙ ap actions_of (map-append doing (take i steps) (s ∷ [])) ∙ ap actions_once (map-append (λ u. u.0) (map doing (take i steps)) (doing s ∷ []))
      ∙ once_more prefix (doing s).0 ∙ ap (λ zs. with_last zs (doing s).0) (sym so_far) ∙ ap (with_last (map meaning taken)) (sym acts)

  -- it is the last action again
  pub same_again : (l : X) (b : Bool) → slice_get taken (length taken - 1) ≡ Some l → b ≡ test l x → b ≡ true → map meaning taken ≡ actions_of (map doing (take (i + 1) steps))
  same_again l b last is holds = sym (longer ∙ by_last meaning (meaning x) taken l true last (eq_of told l x ∙ sym is ∙ holds))

  -- it is another one than the last
  pub another : (l y : X) (more : List X) (b : Bool) → slice_get taken (length taken - 1) ≡ Some l → b ≡ test l x → b ≡ false → meaning y ≡ meaning x → more ≡ taken ++ y ∷ [] → map meaning more ≡ actions_of (map doing (take (i + 1) steps))
  another l y more b last is fails copy pushed =
      ap (map meaning) pushed ∙ map-append meaning taken (y ∷ []) ∙ ap (λ w. map meaning taken ++ w ∷ []) copy
      ∙ sym (longer ∙ by_last meaning (meaning x) taken l false last (eq_of told l x ∙ sym is ∙ fails))

  -- it is the first one
  pub first_one : (y : X) (more : List X) → slice_get taken (length taken - 1) ≡ None → meaning y ≡ meaning x → more ≡ taken ++ y ∷ [] → map meaning more ≡ actions_of (map doing (take (i + 1) steps))
  first_one y more none copy pushed =
      ap (map meaning) pushed ∙ map-append meaning taken (y ∷ []) ∙ ap (λ w. map meaning taken ++ w ∷ []) copy ∙ sym (longer ∙ none_yet meaning (meaning x) taken none)
