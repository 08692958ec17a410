-- A renamed process is answered by images with the same members.
use Rattle.std.proofs.Common.{◌≡◌, zero, suc, List, [], ◌∷◌, ◌++◌, Contains, Option, Err, map, refl, sym, ◌∙◌, ap, ap₂, subst, arith}
use Rattle.std.proofs.lemmas.List.{append_assoc, map-append}
use Rattle.std.specs.Option.{option_or}
use Rattle.std.specs.Result.{result_err}
use Rattle.theory_syntax.specs.Value.{Action, Event, Tau, Tick, Ev}
use Rattle.theory_syntax.specs.Process.{Process, RenamingPair, Renaming, Script}
use Rattle.theory_syntax.proofs.Members.{contains_none}
use Rattle.theory_semantics.specs.Meaning.Events.{images_by, or_itself, renaming}
use Rattle.theory_semantics.specs.Meaning.Faults.{cause_in}
use Rattle.csp_value.specs.declared.action.Event as concrete
use Rattle.csp_value.specs.declared.action.Action.TheVariants as action
use Rattle.csp_value.specs.Action.{event_of}
use Rattle.csp_events.specs.declared.images.Images.{Images}
use Rattle.csp_steps.specs.declared.rule_step.RuleStep.{RuleStep}
use Rattle.csp_steps.specs.declared.rule_step.Target.{Target}
use Rattle.csp_expression.specs.declared.no_value.NoValue.{NoValue}
use Rattle.csp_expression.specs.declared.no_value.NoValue.TheVariants as eval
use Rattle.csp_steps.specs.Answering.{Answered, Answers, IsAnswered, answered_of, target_of}
use Rattle.csp_steps.specs.Composing.{HaveSameSteps, each_answer, image_answers, rename_answer, under_limits}
use Rattle.csp_events.specs.Imaging.{AreMade, IsImagesOf, found_images}
use Rattle.csp_events.proofs.Alike.{AreAlike, alike_both, alike_by}
use Rattle.csp_steps.proofs.Changing.{renaming_answered}
use Rattle.csp_steps.proofs.Same.{answered_by_same}

-- ---- the same target for each image

image_from : (t : Option Process) (fs : List Event) (b : Answered) → Contains (image_answers t fs) b → (f : Event) × Contains fs f × (b ≡ (Ev f, t))
image_from t [] b (k, h, e) = absurd (omega arith)
image_from t (f ∷ fs) b (zero, h, e) = (f, (0, omega arith, refl), sym e)
image_from t (f ∷ fs) b (suc k, h, e) = let r = image_from t fs b (k, omega arith, e) in let i = r.1 in (r.0, (suc i.0, omega (arith, i.1), i.2), r.2)

image_to : (t : Option Process) (fs : List Event) (f : Event) → Contains fs f → Contains (image_answers t fs) (Ev f, t)
image_to t [] f (k, h, e) = absurd (omega arith)
image_to t (g ∷ fs) f (zero, h, e) = (0, omega arith, ap (λ x. (Ev x, t)) e)
image_to t (g ∷ fs) f (suc k, h, e) = let r = image_to t fs f (k, omega arith, e) in (suc r.0, omega (arith, r.1), r.2)

image_way : (t : Option Process) (fs gs : List Event) → AreAlike fs gs → (b : Answered) → Contains (image_answers t fs) b → Contains (image_answers t gs) b
image_way t fs gs alike b has =
    let r = image_from t fs b has in
    subst (Contains (image_answers t gs)) (sym r.2) (image_to t gs r.0 ((alike r.0).0 r.1))

images_alike : (t : Option Process) (fs gs : List Event) → AreAlike fs gs → AreAlike (image_answers t fs) (image_answers t gs)
images_alike t fs gs alike b = (image_way t fs gs alike b, image_way t gs fs (λ f. ((alike f).1, (alike f).0)) b)

-- one image more
images_more : (t : Option Process) (fs : List Event) (f : Event) → image_answers t (fs ++ f ∷ []) ≡ image_answers t fs ++ (Ev f, t) ∷ []
images_more t [] f = refl
images_more t (g ∷ fs) f = ap (λ bs. (Ev g, t) ∷ bs) (images_more t fs f)

pub one_image_more : {A : Type 0} (t : Option Process) (before : List Answered) (now more : List (RuleStep A)) (taken : List (concrete.Event A)) (image : concrete.Event A) (copy : Target A) →
    map answered_of now ≡ before ++ image_answers t (map event_of taken) → target_of copy ≡ t → more ≡ now ++ (record { action = action.Event image; target = copy }) ∷ [] →
    map answered_of more ≡ before ++ image_answers t (map event_of (taken ++ image ∷ []))
one_image_more t before now more taken image copy so_far same pushed =
    let fs = map event_of taken in
    let last = ap (λ u. (Ev (event_of image), u) ∷ []) same in
    ap (map answered_of) pushed ∙ map-append answered_of now ((record { action = action.Event image; target = copy }) ∷ []) ∙ ap₂ ◌++◌ so_far last
    ∙ append_assoc before (image_answers t fs) ((Ev (event_of image), t) ∷ [])
    ∙ ap (λ bs. before ++ bs) (sym (images_more t fs (event_of image)) ∙ ap (image_answers t) (sym (map-append event_of taken (image ∷ []))))

-- ---- an event that no pair names

itself_alike : (e : Event) (fs gs : List Event) → AreAlike fs gs → AreAlike (or_itself e fs) (or_itself e gs)
itself_alike e [] [] alike = alike_by (e ∷ []) (e ∷ []) refl
itself_alike e [] (g ∷ gs) alike = absurd (contains_none g ((alike g).1 (0, omega arith, refl)))
itself_alike e (f ∷ fs) [] alike = absurd (contains_none f ((alike f).0 (0, omega arith, refl)))
itself_alike e (f ∷ fs) (g ∷ gs) alike = alike

-- ---- the steps

module _ (f g : Event → List Event) (alike : (e : Event) → AreAlike (f e) (g e)) (under : Option Process → Option Process) where
  one_renamed : (x : Action) (t : Option Process) → AreAlike (rename_answer f under x t) (rename_answer g under x t)
  one_renamed Tau t = alike_by ((Tau, under t) ∷ []) ((Tau, under t) ∷ []) refl
  one_renamed Tick t = alike_by (rename_answer f under Tick t) (rename_answer g under Tick t) refl
  one_renamed (Ev e) t = images_alike (under t) (f e) (g e) (alike e)

  same_renamed : (bs : List Answered) → HaveSameSteps (each_answer (rename_answer f under) bs) (each_answer (rename_answer g under) bs)
  same_renamed [] = alike_by [] [] refl
  same_renamed (b ∷ bs) =
      alike_both (rename_answer f under b.0 b.1) (rename_answer g under b.0 b.1) (each_answer (rename_answer f under) bs) (each_answer (rename_answer g under) bs) (one_renamed b.0 b.1) (same_renamed bs)

-- what the pairs make of events answers the renamed process
pub renaming_by : {A : Type 0} (s : Script) (p : Process) (bs : List Answered) → IsAnswered s p bs → (rs : List RenamingPair) (found : Images A) → AreMade found (renaming s rs) →
    IsAnswered s (Renaming p rs) (each_answer (rename_answer (λ e. or_itself e (found_images found e)) (under_limits (λ t. Renaming t rs))) bs)
renaming_by s p bs only rs found made =
    let under = under_limits (λ t. Renaming t rs) in
    let f : Event → List Event = λ e. or_itself e (made.0 e) in
    let g : Event → List Event = λ e. or_itself e (found_images found e) in
    let P : (Event → List Event) → Type 0 = λ h. IsAnswered s (Renaming p rs) (each_answer (rename_answer h under) bs) in
    let by_pairs = subst P (ap images_by made.1) (renaming_answered s p bs only rs (ap result_err made.1)) in
    answered_by_same s (Renaming p rs) (each_answer (rename_answer g under) bs) (each_answer (rename_answer f under) bs)
    (same_renamed g f (λ e. itself_alike e (found_images found e) (made.0 e) (λ h. ((made.2 e h).1, (made.2 e h).0))) under bs) by_pairs

-- pairs without images are the cause
pub renaming_stuck : (A : Type 0) (s : Script) (p : Process) (rs : List RenamingPair) (why : NoValue) → IsImagesOf {A = A} (Err why) (renaming s rs) → Answers {A = A} s (Renaming p rs) (Err why)
renaming_stuck A s p rs (eval.Cause c) is = ap (λ r. option_or (result_err r) (cause_in s p)) is
renaming_stuck A s p rs eval.Memory is = tt
