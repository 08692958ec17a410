-- A term of one process whose events are hidden or renamed is answered by what is answered of that process.
use Rattle.std.proofs.Common.{◌≡◌, Bool, true, false, cond, List, [], ◌∷◌, Option, Some, None, Ok, Err, refl, ◌∙◌, ap, ap₂, subst}
use Rattle.std.specs.Option.{option_or}
use Rattle.std.specs.Result.{result_err}
use Rattle.theory_syntax.specs.Value.{Action, Event, Tau, Tick, Ev}
use Rattle.theory_syntax.specs.Process.{EventSet, RenamingPair, Process, Script, Omega, Hiding, Renaming}
use Rattle.theory_semantics.specs.Meaning.Events.{event_test, has_event, images, passes, renaming}
use Rattle.theory_semantics.specs.Meaning.Faults.{cause_in}
use Rattle.theory_semantics.specs.Meaning.Stepping.{each_step, hide, image_steps, rename, rule_steps}
use Rattle.theory_semantics.proofs.Stepping.{exact}
use Rattle.csp_expression.specs.declared.no_value.NoValue.{NoValue}
use Rattle.csp_expression.specs.declared.no_value.NoValue.TheVariants as eval
use Rattle.csp_steps.specs.Answering.{Answered, Answers, IsAnswered, within_limits}
use Rattle.csp_steps.proofs.Answered.{AreAnswered, by_its_steps, its_steps}
use Rattle.csp_steps.specs.Composing.{each_answer, hide_answer, image_answers, rename_answer, under_limits}
use Rattle.csp_events.specs.Testing.{IsTestOf}
use Rattle.csp_steps.proofs.Composing.{Keeps, both_answered, each_answered, limits_under, none_answered, one_answered}
use Rattle.csp_steps.proofs.Past.{hiding_only, renaming_only}

module _ (answer : Option Process → Option Process) (under : Process → Process) (keeps : Keeps answer under) where
  hide_answered : (hidden : Event → Bool) (x : Action) (u : Process) → AreAnswered (hide hidden under x u) (hide_answer hidden answer x (within_limits u))
  hide_answered hidden Tau u = one_answered Tau (answer (within_limits u)) (under u) (keeps u)
  hide_answered hidden Tick u = one_answered Tick (Some Omega) Omega refl
  hide_answered hidden (Ev e) u = by_test (hidden e)
    where
      by_test : (b : Bool) → AreAnswered (cond b ((Tau, under u) ∷ []) ((Ev e, under u) ∷ [])) (cond b ((Tau, answer (within_limits u)) ∷ []) ((Ev e, answer (within_limits u)) ∷ []))
      by_test true = one_answered Tau (answer (within_limits u)) (under u) (keeps u)
      by_test false = one_answered (Ev e) (answer (within_limits u)) (under u) (keeps u)

  images_answered : (u : Process) (fs : List Event) → AreAnswered (image_steps (under u) fs) (image_answers (answer (within_limits u)) fs)
  images_answered u [] = none_answered
  images_answered u (f ∷ fs) =
      let t = answer (within_limits u) in
      both_answered ((Ev f, under u) ∷ []) (image_steps (under u) fs) ((Ev f, t) ∷ []) (image_answers t fs) (one_answered (Ev f) t (under u) (keeps u)) (images_answered u fs)

  rename_answered : (images : Event → List Event) (x : Action) (u : Process) → AreAnswered (rename images under x u) (rename_answer images answer x (within_limits u))
  rename_answered images Tau u = one_answered Tau (answer (within_limits u)) (under u) (keeps u)
  rename_answered images Tick u = one_answered Tick (Some Omega) Omega refl
  rename_answered images (Ev e) u = images_answered u (images e)

module _ (s : Script) (p : Process) where
  -- once the set, or the pairs, have no cause, the causes are those of the process
  pub hiding_rest : (a : EventSet) → result_err (event_test s a) ≡ None → cause_in s (Hiding p a) ≡ cause_in s p
  hiding_rest a clear = ap (λ o. option_or o (cause_in s p)) clear

  pub renaming_rest : (rs : List RenamingPair) → result_err (renaming s rs) ≡ None → cause_in s (Renaming p rs) ≡ cause_in s p
  renaming_rest rs clear = ap (λ o. option_or o (cause_in s p)) clear

  module _ (bs : List Answered) (only : IsAnswered s p bs) where
    pub hiding_answered : (a : EventSet) → result_err (event_test s a) ≡ None → IsAnswered s (Hiding p a) (each_answer (hide_answer (has_event s a) (under_limits (λ t. Hiding t a))) bs)
    hiding_answered a clear =
        let ps = rule_steps s p in
        let does = hide (has_event s a) (λ t. Hiding t a) in
        let answer = hide_answer (has_event s a) (under_limits (λ t. Hiding t a)) in
        by_its_steps s (Hiding p a) (each_step does ps) (exact s (Hiding p a)) (each_answer answer bs) (hiding_rest a clear ∙ only.no_cause)
        (each_answered does answer (hide_answered (under_limits (λ t. Hiding t a)) (λ t. Hiding t a) (limits_under (λ t. Hiding t a) (hiding_only a)) (has_event s a)) ps bs (its_steps s p ps (exact s p) bs only))

    pub renaming_answered : (rs : List RenamingPair) → result_err (renaming s rs) ≡ None → IsAnswered s (Renaming p rs) (each_answer (rename_answer (images s rs) (under_limits (λ t. Renaming t rs))) bs)
    renaming_answered rs clear =
        let ps = rule_steps s p in
        let does = rename (images s rs) (λ t. Renaming t rs) in
        let answer = rename_answer (images s rs) (under_limits (λ t. Renaming t rs)) in
        by_its_steps s (Renaming p rs) (each_step does ps) (exact s (Renaming p rs)) (each_answer answer bs) (renaming_rest rs clear ∙ only.no_cause)
        (each_answered does answer (rename_answered (under_limits (λ t. Renaming t rs)) (λ t. Renaming t rs) (limits_under (λ t. Renaming t rs) (renaming_only rs)) (images s rs)) ps bs (its_steps s p ps (exact s p) bs only))

    -- by the test that the set is
    pub hiding_by : (a : EventSet) (hidden : Event → Bool) → event_test s a ≡ Ok hidden → IsAnswered s (Hiding p a) (each_answer (hide_answer hidden (under_limits (λ t. Hiding t a))) bs)
    hiding_by a hidden is =
        let P : (Event → Bool) → Type 0 = λ f. IsAnswered s (Hiding p a) (each_answer (hide_answer f (under_limits (λ t. Hiding t a))) bs) in
        subst P (ap passes is) (hiding_answered a (ap result_err is))

-- an event that is hidden is done as tau
pub hidden_is : (b : Bool) (x : Action) (e : Event) (t u : Option Process) → x ≡ cond b Tau (Ev e) → u ≡ t → ◌≡◌ {A = List Answered} ((x, u) ∷ []) (cond b ((Tau, t) ∷ []) ((Ev e, t) ∷ []))
hidden_is true x e t u is same = ap₂ (λ y o. (y, o) ∷ []) is same
hidden_is false x e t u is same = ap₂ (λ y o. (y, o) ∷ []) is same

-- a set without a test is the cause
pub hiding_stuck : (A : Type 0) (s : Script) (p : Process) (a : EventSet) (why : NoValue) → IsTestOf {A = A} (Err why) (event_test s a) → Answers {A = A} s (Hiding p a) (Err why)
hiding_stuck A s p a (eval.Cause c) is = ap (λ r. option_or (result_err r) (cause_in s p)) is
hiding_stuck A s p a eval.Memory is = tt
