-- The events of a body that pass its operator are those of its steps.
use Rattle.std.proofs.Common.{◌≡◌, ◌↔◌, ⊎_elim, ℕ, ◌+◌, ◌<◌, ◌≤◌, cond, Contains, List, [], ◌∷◌, ◌++◌, length, map, take, get_or, sym, ◌∙◌, ap, subst, inl, inr, Option, Some, None, Ok, Err}
use Rattle.std.proofs.lemmas.List.{map-append, take_all, take_more}
use Rattle.std.proofs.lemmas.List.Elements.{Contains-append_cases, Contains-append_left, Contains-append_right}
use Rattle.theory_syntax.specs.Value.{Ev, Event}
use Rattle.theory_syntax.specs.Process.{Process, RenamingPair, Script}
use Rattle.theory_syntax.proofs.Members.{contains_here, contains_none, contains_one}
use Rattle.theory_semantics.specs.Meaning.Evaluation.{Cause}
use Rattle.theory_semantics.specs.Meaning.Events.{images, images_by, or_itself, renaming}
use Rattle.theory_semantics.specs.Meaning.Faults.{cause_in}
use Rattle.theory_origins.specs.Ways.{AreEventsTo}
use Rattle.csp_steps.specs.Answering.{Answered, IsAnswered, within_limits}
use Rattle.csp_moves.specs.Passing.{AddsPassing, ArePassing}

-- ---- one step

module _ (u : Process) (passes : Event → Type 0) (b : Answered) (es : List Event) where
  same_event : (e f : Event) → b ≡ (Ev e, Some u) → b ≡ (Ev f, Some u) → e ≡ f
  same_event e f is same = let h : Ev e ≡ Ev f = ap (λ s. s.0) (sym is ∙ same) in cc h

  pub none_added : ((e : Event) → b ≡ (Ev e, Some u) → ¬ passes e) → AddsPassing u passes b es es
  none_added none e = (λ has. inl has, λ either. ⊎_elim (λ has. has) (λ new. absurd (none e new.0 new.1)) either)

  pub one_added : (e : Event) (fs : List Event) → b ≡ (Ev e, Some u) → passes e → fs ≡ es ++ e ∷ [] → AddsPassing u passes b es fs
  one_added e fs is passing pushed f = (
    λ has. ⊎_elim (λ before. inl before) (λ last. let P : Event → Type 0 = λ g. (b ≡ (Ev g, Some u)) × passes g in inr (subst P (contains_one e f last) (is, passing)))
        (Contains-append_cases es (e ∷ []) f (let Q : List Event → Type 0 = λ gs. Contains gs f in subst Q pushed has)),
    λ either. let Q : List Event → Type 0 = λ gs. Contains gs f in subst Q (sym pushed)
        (⊎_elim (λ before. Contains-append_left es (e ∷ []) f before) (λ new. Contains-append_right es (e ∷ []) f (let R : Event → Type 0 = λ g. Contains (e ∷ []) g in subst R (same_event e f is new.0) (contains_here e []))) either),
  )

  pub not_added : (e : Event) → b ≡ (Ev e, Some u) → ¬ passes e → AddsPassing u passes b es es
  not_added e is other = none_added (λ f same passing. other (let P : Event → Type 0 = λ g. passes g in subst P (sym (same_event e f is same)) passing))

-- ---- all steps

module _ (u : Process) (passes : Event → Type 0) where
  pub none_yet : ArePassing u passes [] []
  none_yet e = (λ has. absurd (contains_none e has), λ both. absurd (contains_none (Ev e, Some u) both.0))

  pub one_step_more : (bs : List Answered) (b : Answered) (es fs : List Event) → ArePassing u passes bs es → AddsPassing u passes b es fs → ArePassing u passes (bs ++ b ∷ []) fs
  one_step_more bs b es fs so_far adds e = (
    λ has. ⊎_elim
        (λ before. let h = (so_far e).0 before in (Contains-append_left bs (b ∷ []) (Ev e, Some u) h.0, h.1))
        (λ new. (Contains-append_right bs (b ∷ []) (Ev e, Some u) (let R : Answered → Type 0 = λ c. Contains (b ∷ []) c in subst R new.0 (contains_here b [])), new.1))
        ((adds e).0 has),
    λ both. (adds e).1 (⊎_elim (λ before. inl ((so_far e).1 (before, both.1))) (λ last. inr (contains_one b (Ev e, Some u) last, both.1)) (Contains-append_cases bs (b ∷ []) (Ev e, Some u) both.0)),
  )

  module _ {X : Type 0} (f : X → Answered) (xs : List X) (es : List Event) where
    pub none_taken : es ≡ [] → ArePassing u passes (map f (take 0 xs)) es
    none_taken none = let P : List Event → Type 0 = λ gs. ArePassing u passes [] gs in subst P (sym none) none_yet

    pub one_taken : (i : ℕ) (x : X) (fs : List Event) → i < length xs → x ≡ get_or xs i x → ArePassing u passes (map f (take i xs)) es → AddsPassing u passes (f x) es fs → ArePassing u passes (map f (take (i + 1) xs)) fs
    one_taken i x fs in_range read so_far adds =
        let more : map f (take (i + 1) xs) ≡ map f (take i xs) ++ f x ∷ [] =
        ap (map f) (take_more xs i x in_range ∙ ap (λ z. take i xs ++ z ∷ []) (sym read)) ∙ map-append f (take i xs) (x ∷ []) in
        let P : List Answered → Type 0 = λ cs. ArePassing u passes cs fs in
        subst P (sym more) (one_step_more (map f (take i xs)) (f x) es fs so_far adds)

    pub all_taken : (i : ℕ) → length xs ≤ i → ArePassing u passes (map f (take i xs)) es → ArePassing u passes (map f xs) es
    all_taken i past so_far = let P : List X → Type 0 = λ ys. ArePassing u passes (map f ys) es in subst P (take_all i xs past) so_far

-- ---- the events of a body

module _ (s : Script) (p u : Process) (passes : Event → Type 0) where
  pub events_are : (bs : List Answered) (es : List Event) → IsAnswered s p bs → ArePassing u passes bs es → AreEventsTo s p u passes es
  events_are bs es are passing = record {
    passing = λ e has. ((passing e).0 has).1;
    every = λ clear within e pass step.
        let kept : within_limits u ≡ Some u = ap (λ b. cond b (Some u) None) within in
        let P : Option Process → Type 0 = λ o. Contains bs (Ev e, o) in
        (passing e).1 (subst P kept (are.complete (Ev e) u step), pass);
  }

  pub no_events : (c : Cause) → cause_in s p ≡ Some c → AreEventsTo s p u passes []
  no_events c is = record {
    passing = λ e has. absurd (contains_none e has);
    every = λ clear within e pass step. let h : Some c ≡ None = sym is ∙ clear in absurd (cc h);
  }

-- the same events pass for another reason
pub passing_as : (s : Script) (p u : Process) (P Q : Event → Type 0) (es : List Event) → ((e : Event) → P e → Q e) → ((e : Event) → Q e → P e) → AreEventsTo s p u P es → AreEventsTo s p u Q es
passing_as s p u P Q es to from are = record {
  passing = λ e has. to e (are.passing e has);
  every = λ clear within e pass step. are.every clear within e (from e pass) step;
}

-- ---- images

module _ (f : Event) where
  itself_to : (e : Event) (fs gs : List Event) → ((h : Event) → Contains fs h → Contains gs h) → ((h : Event) → Contains gs h → Contains fs h) → Contains (or_itself e fs) f → Contains (or_itself e gs) f
  itself_to e [] [] to from has = has
  itself_to e [] (g ∷ gs) to from has = absurd (contains_none g (from g (contains_here g gs)))
  itself_to e (h ∷ fs) [] to from has = absurd (contains_none h (to h (contains_here h fs)))
  itself_to e (h ∷ fs) (g ∷ gs) to from has = to f has

  -- what is found is an image, and each image is found
  pub image_of_found : (s : Script) (rs : List RenamingPair) (made found : Event → List Event) → renaming s rs ≡ Ok made → ((e g : Event) → Contains (made e) g ↔ Contains (found e) g) →
      (e : Event) → (Contains (or_itself e (found e)) f → Contains (images s rs e) f) × (Contains (images s rs e) f → Contains (or_itself e (found e)) f)
  image_of_found s rs made found is same e =
      let named : images s rs e ≡ or_itself e (made e) = ap (λ r. images_by r e) is in
      let P : List Event → Type 0 = λ gs. Contains gs f in (
        λ has. subst P (sym named) (itself_to e (found e) (made e) (λ h. (same e h).1) (λ h. (same e h).0) has),
        λ has. itself_to e (made e) (found e) (λ h. (same e h).0) (λ h. (same e h).1) (subst P named has),
      )

  pub no_image : (s : Script) (rs : List RenamingPair) (c : Cause) → renaming s rs ≡ Err c → (e : Event) → ¬ Contains (images s rs e) f
  no_image s rs c is e has = let P : List Event → Type 0 = λ gs. Contains gs f in contains_none f (subst P (ap (λ r. images_by r e) is) has)
