-- Steps by numbers, among more parts.
use Rattle.std.proofs.Common.{◌≡◌, ◌<◌, ◌↔◌, ℕ, Bool, true, false, List, [], ◌∷◌, ◌++◌, length, slice_get, Some, None, Option, Contains, refl, sym, ◌∙◌, ap, ap₂, subst}
use Rattle.std.specs.List.{AllByRecursion}
use Rattle.std.specs.declared.vec.Vec.{Vec}
use Rattle.std.proofs.lemmas.List.{map-append}
use Rattle.std.proofs.lemmas.Option.{get_or_from_slice_get, slice_get-get_or, slice_get_within}
use Rattle.theory_syntax.specs.Value.{Action, Event}
use Rattle.theory_syntax.specs.Process.{Process, Script, Stop}
use Rattle.theory_semantics.specs.Meaning.Expansions.{step_cmp}
use Rattle.theory_semantics.specs.Meaning.Offers.{RisesBy}
use Rattle.theory_semantics.specs.Meaning.Transitions.{RuleStep}
use Rattle.theory_search.specs.Growth.{StaysIn}
use Rattle.csp_rows.specs.declared.step.PartStep.{PartStep}
use Rattle.csp_rows.specs.Numbering.{IsNumbered}
use Rattle.csp_rows.specs.Rows.{AreStepsNumbered, AreTargetsAmong}
use Rattle.kept_parts.specs.Fired.{AreNumberedSteps}
use Rattle.kept_parts.specs.Kept.{AreItsSteps, IsShown, Shows}
use Rattle.kept_parts.specs.Places.{action_in, part_in, step_in, steps_in}

pub all_push : {X : Type 0} (P : X → Type 0) (xs : List X) (x : X) → AllByRecursion P xs → P x → AllByRecursion P (xs ++ x ∷ [])
all_push P [] x all one = (one, tt)
all_push P (y ∷ ys) x all one = (all.0, all_push P ys x all.1 one)

module _ (es : List Event) (ps more : List Process) (stays : StaysIn ps more) where
  pub same_part : (n : ℕ) → n < length ps → part_in more n ≡ part_in ps n
  same_part n within = get_or_from_slice_get more n (part_in ps n) Stop (stays n (part_in ps n) (slice_get-get_or ps n Stop within))

  still_within : (n : ℕ) → n < length ps → n < length more
  still_within n within = slice_get_within more n (part_in ps n) (stays n (part_in ps n) (slice_get-get_or ps n Stop within))

  pub same_steps : (ss : List PartStep) → AreTargetsAmong (length ps) ss → steps_in es more ss ≡ steps_in es ps ss
  same_steps [] among = refl
  same_steps (s ∷ ss) among = ap₂ (λ z zs. z ∷ zs) (ap (λ p. (action_in es s.action, p)) (same_part s.target.0 among.0)) (same_steps ss among.1)

  pub still_among : (ss : List PartStep) → AreTargetsAmong (length ps) ss → AreTargetsAmong (length more) ss
  still_among [] among = tt
  still_among (s ∷ ss) among = (still_within s.target.0 among.0, still_among ss among.1)

  still_steps : (script : Script) (p : Process) (ss : List PartStep) → AreItsSteps script es ps p ss → AreItsSteps script es more p ss
  still_steps script p ss its =
      let same : steps_in es ps ss ≡ steps_in es more ss = sym (same_steps ss its.among) in
      record {
        not_stuck = its.not_stuck;
        each_step = λ x u. subst (λ (zs : List (Action × Process)). RuleStep script p x u ↔ Contains zs (x, u)) same (its.each_step x u);
        rise = subst (λ zs. RisesBy step_cmp zs) same its.rise;
        numbered = its.numbered;
        among = still_among ss its.among;
      }

  -- what firing a part has shown stays true
  pub still_shows : {A : Type 0} (script : Script) (p : Process) (steps : Option (Vec PartStep A)) → Shows script es ps p steps → Shows script es more p steps
  still_shows script p None shows = shows
  still_shows script p (Some ss) shows = still_steps script p ss.items shows

  pub still_shown : {A : Type 0} (script : Script) (p : Process) (b : Bool) (steps : Option (Vec PartStep A)) → IsShown script es ps p b steps → IsShown script es more p b steps
  still_shown script p true steps shown = still_shows script p steps shown
  still_shown script p false steps shown = shown

  -- one more step
  pub numbered_more : (ss after : List PartStep) (s : PartStep) (steps all : List (Action × Process)) (x : Action) (u : Process) → AreNumberedSteps es ps ss steps → after ≡ ss ++ s ∷ [] →
      action_in es s.action ≡ x → IsNumbered (length es) s.action → slice_get more s.target.0 ≡ Some u → all ≡ steps ++ (x, u) ∷ [] → AreNumberedSteps es more after all
  numbered_more ss after s steps all x u so_far pushed by has at is =
      let here : part_in more s.target.0 ≡ u = get_or_from_slice_get more s.target.0 u Stop at in
      let one : step_in es more s ≡ (x, u) = ap₂ (λ y v. (y, v)) by here in
      record {
        value =
            ap (steps_in es more) pushed ∙ map-append (step_in es more) ss (s ∷ []) ∙ ap (λ (zs : List (Action × Process)). zs ++ step_in es more s ∷ []) (same_steps ss so_far.among ∙ so_far.value) ∙ ap (λ z. steps ++ z ∷ []) one ∙ sym is;
        numbered = subst (AreStepsNumbered (length es)) (sym pushed) (all_push (λ t. IsNumbered (length es) t.action) ss s so_far.numbered has);
        among = subst (AreTargetsAmong (length more)) (sym pushed) (all_push (λ t. t.target.0 < length more) ss s (still_among ss so_far.among) (slice_get_within more s.target.0 u at));
      }
