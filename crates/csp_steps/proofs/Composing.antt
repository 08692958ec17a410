-- What is answered of a term is composed of what is answered of its parts, along the definitions' steps.
use Rattle.std.proofs.Common.{◌≡◌, ◌∙◌, zero, suc, Bool, true, false, cond, List, [], ◌∷◌, ◌++◌, Option, Some, None, refl, sym, ap, subst, ⊎_elim, Contains, arith}
use Rattle.std.proofs.lemmas.List.{append-nil, append_assoc}
use Rattle.std.proofs.lemmas.List.Elements.{Contains-append_cases, Contains-append_left, Contains-append_right}
use Rattle.theory_syntax.specs.Value.{Action, Event, Tau, Tick, Ev}
use Rattle.theory_syntax.specs.Process.{Process}
use Rattle.theory_semantics.specs.Meaning.Limits.{fits}
use Rattle.theory_semantics.specs.Meaning.Stepping.{Steps, each_step, leave, stay}
use Rattle.theory_semantics.proofs.Stepping.{append_cases, append_left, append_right, each_in, each_of}
use Rattle.csp_steps.specs.Answering.{Answered, within_limits}
use Rattle.csp_steps.specs.Composing.{each_answer, leave_answer, stay_answer, under_both, under_limits}
use Rattle.csp_steps.proofs.Answered.{AreAnswered, kept_answers}
use Rattle.csp_steps.proofs.Past.{StaysPast}

-- ---- one step, and two lists

pub one_answered : (x : Action) (t : Option Process) (u : Process) → t ≡ within_limits u → AreAnswered ((x, u) ∷ []) ((x, t) ∷ [])
one_answered x t u is =
    let P : Option Process → Type 0 = λ o. AreAnswered ((x, u) ∷ []) ((x, o) ∷ []) in subst P (sym is) (kept_answers ((x, u) ∷ []))

pub none_answered : AreAnswered [] []
none_answered = kept_answers []

pub both_answered : (ss zs : Steps) (bs cs : List Answered) → AreAnswered ss bs → AreAnswered zs cs → AreAnswered (ss ++ zs) (bs ++ cs)
both_answered ss zs bs cs first second = record {
  sound = λ x t h. ⊎_elim
      (λ k. let r = first.sound x t k in (r.0, append_left ss zs x r.0 r.1, r.2))
      (λ k. let r = second.sound x t k in (r.0, append_right ss zs x r.0 r.1, r.2))
      (Contains-append_cases bs cs (x, t) h);
  complete = λ x u h. ⊎_elim
      (λ k. Contains-append_left bs cs (x, within_limits u) (first.complete x u k))
      (λ k. Contains-append_right bs cs (x, within_limits u) (second.complete x u k))
      (append_cases ss zs x u h);
}

-- ---- what is made of each step

-- one more step
pub each_more : (f : Action → Option Process → List Answered) (bs : List Answered) (b : Answered) → each_answer f (bs ++ b ∷ []) ≡ each_answer f bs ++ f b.0 b.1
each_more f [] b = append-nil (f b.0 b.1)
each_more f (c ∷ bs) b = ap (λ cs. f c.0 c.1 ++ cs) (each_more f bs b) ∙ sym (append_assoc (f c.0 c.1) (each_answer f bs) (f b.0 b.1))

module _ (g : Action → Option Process → List Answered) where
  pub answers_from : (bs : List Answered) (a : Answered) → Contains (each_answer g bs) a → (b : Answered) × Contains bs b × Contains (g b.0 b.1) a
  answers_from [] a h = absurd (let k = h.1 in omega (arith, k))
  answers_from (b ∷ bs) a h = ⊎_elim
      (λ k. (b, (0, omega arith, refl), k))
      (λ k. let r = answers_from bs a k in let i = r.1 in (r.0, (suc i.0, omega (arith, i.1), i.2), r.2))
      (Contains-append_cases (g b.0 b.1) (each_answer g bs) a h)

  pub answers_to : (bs : List Answered) (b a : Answered) → Contains bs b → Contains (g b.0 b.1) a → Contains (each_answer g bs) a
  answers_to [] b a (k, h, e) has = absurd (omega arith)
  answers_to (c ∷ bs) b a (zero, h, e) has =
      let P : Answered → Type 0 = λ d. Contains (g d.0 d.1) a in Contains-append_left (g c.0 c.1) (each_answer g bs) a (subst P (sym e) has)
  answers_to (c ∷ bs) b a (suc k, h, e) has = Contains-append_right (g c.0 c.1) (each_answer g bs) a (answers_to bs b a (k, omega arith, e) has)

-- what is made of each step is answered by what is made of each answer
pub each_answered : (f : Action → Process → Steps) (g : Action → Option Process → List Answered) → ((x : Action) (u : Process) → AreAnswered (f x u) (g x (within_limits u))) → (ss : Steps) (bs : List Answered) → AreAnswered ss bs →
    AreAnswered (each_step f ss) (each_answer g bs)
each_answered f g one ss bs all = record {
  sound = λ x t h.
      let r = answers_from g bs (x, t) h in
      let b = r.0 in
      let step = all.sound b.0 b.1 r.1 in
      let P : Option Process → Type 0 = λ o. Contains (g b.0 o) (x, t) in
      let made = (one b.0 step.0).sound x t (subst P step.2 r.2) in
      (made.0, each_of f ss b.0 step.0 x made.0 step.1 made.1, made.2);
  complete = λ x u h.
      let r = each_in f ss x u h in
      answers_to g bs (r.0, within_limits r.1) (x, within_limits u) (all.complete r.0 r.1 r.2) ((one r.0 r.1).complete x u r.3);
}

-- ---- under an operator

-- what is answered of a process under an operator, by what is answered of it
abbrev pub Keeps : (Option Process → Option Process) → (Process → Process) → Type 0
Keeps answer under = (u : Process) → answer (within_limits u) ≡ within_limits (under u)

pub limits_under : (under : Process → Process) → StaysPast under → Keeps (under_limits under) under
limits_under under stays u = by_fit (fits u) refl
  where
    by_fit : (b : Bool) → fits u ≡ b → under_limits under (cond b (Some u) None) ≡ within_limits (under u)
    by_fit true is = refl
    by_fit false is = ap (λ b. cond b (Some (under u)) None) (sym (stays u is))

pub limits_under_both : (under : Process → Process → Process) → ((q : Process) → StaysPast (λ p. under p q)) → ((p : Process) → StaysPast (λ q. under p q)) → (t u : Process) →
    under_both under (within_limits t) (within_limits u) ≡ within_limits (under t u)
limits_under_both under first_past second_past t u = by_fit (fits t) refl
  where
    by_fit : (b : Bool) → fits t ≡ b → under_both under (cond b (Some t) None) (within_limits u) ≡ within_limits (under t u)
    by_fit true is = limits_under (under t) (second_past t) u
    by_fit false is = ap (λ b. cond b (Some (under t u)) None) (sym (first_past u t is))

module _ (answer : Option Process → Option Process) (under : Process → Process) (keeps : Keeps answer under) where
  pub leave_answered : (x : Action) (u : Process) → AreAnswered (leave under x u) (leave_answer answer x (within_limits u))
  leave_answered Tau u = one_answered Tau (answer (within_limits u)) (under u) (keeps u)
  leave_answered Tick u = one_answered Tick (within_limits u) u refl
  leave_answered (Ev e) u = one_answered (Ev e) (within_limits u) u refl

  pub stay_answered : (free : Event → Bool) (end : Steps) (ended : List Answered) → AreAnswered end ended → (x : Action) (u : Process) → AreAnswered (stay free under end x u) (stay_answer free answer ended x (within_limits u))
  stay_answered free end ended ends Tau u = one_answered Tau (answer (within_limits u)) (under u) (keeps u)
  stay_answered free end ended ends Tick u = ends
  stay_answered free end ended ends (Ev e) u = by_test (free e)
    where
      by_test : (b : Bool) → AreAnswered (cond b ((Ev e, under u) ∷ []) []) (cond b ((Ev e, answer (within_limits u)) ∷ []) [])
      by_test true = one_answered (Ev e) (answer (within_limits u)) (under u) (keeps u)
      by_test false = none_answered
