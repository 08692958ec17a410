-- A term of two processes side by side is answered by what is answered of them.
use Rattle.std.proofs.Common.{◌≡◌, max, Bool, true, false, not, ◌&&◌, cond, List, [], ◌∷◌, ◌++◌, Option, Some, None, refl, sym, ◌∙◌, ap, ap₂, subst, arith}
use Rattle.std.specs.Option.{option_or}
use Rattle.std.specs.Result.{result_err}
use Rattle.theory_syntax.specs.Value.{Action, Event, Tau, Tick, Ev, event_eq}
use Rattle.theory_syntax.specs.Process.{EventSet, Process, Script, Omega, Interleaving, GeneralisedParallel, AlphabetisedParallel}
use Rattle.theory_semantics.specs.Meaning.Events.{event_test, has_event}
use Rattle.theory_semantics.specs.Meaning.Faults.{cause_in, height}
use Rattle.theory_semantics.specs.Meaning.Limits.{fits}
use Rattle.theory_semantics.specs.Meaning.Stepping.{Steps, always, both_ended, each_step, meet, never, parallel_steps, stay, steps_within}
use Rattle.theory_semantics.specs.Laws.Statements.{StepsAre}
use Rattle.theory_semantics.proofs.Causes.{alphabetised_cause, generalised_cause, interleaving_cause}
use Rattle.theory_semantics.proofs.Stepping.{exact, exact_within}
use Rattle.csp_steps.specs.Answering.{Answered, IsAnswered, within_limits}
use Rattle.csp_steps.specs.Composing.{each_answer, ended_answer, has_ended, is_omega, meet_answer, parallel_answers, stay_answer, under_both}
use Rattle.csp_steps.proofs.Answered.{AreAnswered, by_its_steps, its_steps, kept_answers}
use Rattle.csp_steps.proofs.Composing.{both_answered, each_answered, limits_under_both, none_answered, one_answered, stay_answered}
use Rattle.csp_steps.proofs.Operating.{clear_of_both}
use Rattle.csp_steps.proofs.Past.{StaysPast, alphabetised_first, alphabetised_second, generalised_first, generalised_second, interleaving_first, interleaving_second}

-- ---- both have ended

not_ended : (b : Bool) (p : Process) → is_omega p ≡ false → has_ended (cond b (Some p) None) ≡ false
not_ended true p is = is
not_ended false p is = refl

-- a process that has ended is within the limits
ended_within : (p : Process) → has_ended (within_limits p) ≡ is_omega p
ended_within Omega = refl
ended_within p = not_ended (fits p) p refl

ended_by_both : (p q : Process) → both_ended p q ≡ cond (is_omega p && is_omega q) ((Tick, Omega) ∷ []) []
ended_by_both Omega Omega = refl
ended_by_both _ _ = refl

ended_answered : (p q : Process) → AreAnswered (both_ended p q) (ended_answer (within_limits p) (within_limits q))
ended_answered p q =
    let P : Steps → Type 0 = λ ss. AreAnswered ss (ended_answer (within_limits p) (within_limits q)) in
    let Q : Bool → Type 0 = λ b. AreAnswered (cond (is_omega p && is_omega q) ((Tick, Omega) ∷ []) []) (cond b ((Tick, Some Omega) ∷ []) []) in
    subst P (sym (ended_by_both p q)) (subst Q (ap₂ ◌&&◌ (sym (ended_within p)) (sym (ended_within q))) (by_test (is_omega p && is_omega q)))
  where
    by_test : (b : Bool) → AreAnswered (cond b ((Tick, Omega) ∷ []) []) (cond b ((Tick, Some Omega) ∷ []) [])
    by_test true = kept_answers ((Tick, Omega) ∷ [])
    by_test false = none_answered

-- ---- side by side

module _ (shared : Event → Bool) (under : Process → Process → Process) (first_past : (q : Process) → StaysPast (λ p. under p q)) (second_past : (p : Process) → StaysPast (λ q. under p q)) where
  keeps : (t u : Process) → under_both under (within_limits t) (within_limits u) ≡ within_limits (under t u)
  keeps = limits_under_both under first_past second_past

  meet_answered : (x : Action) (t : Process) (y : Action) (u : Process) → AreAnswered (meet shared under x t y u) (meet_answer shared under x (within_limits t) y (within_limits u))
  meet_answered (Ev e) t (Ev f) u = by_test (event_eq e f && shared e)
    where
      by_test : (b : Bool) → AreAnswered (cond b ((Ev e, under t u) ∷ []) []) (cond b ((Ev e, under_both under (within_limits t) (within_limits u)) ∷ []) [])
      by_test true = one_answered (Ev e) (under_both under (within_limits t) (within_limits u)) (under t u) (keeps t u)
      by_test false = none_answered
  meet_answered (Ev e) t Tau u = none_answered
  meet_answered (Ev e) t Tick u = none_answered
  meet_answered Tau t y u = none_answered
  meet_answered Tick t y u = none_answered

  module _ (left_free right_free : Event → Bool) (p : Process) (ps : Steps) (bs : List Answered) (first : AreAnswered ps bs) (q : Process) (qs : Steps) (cs : List Answered) (second : AreAnswered qs cs) where
    abbrev left_does : Action → Process → Steps
    left_does = stay left_free (λ t. under t q) ((Tau, under Omega q) ∷ [])

    abbrev from_left : Option Process → Option Process
    from_left t = under_both under t (within_limits q)

    abbrev left_ended : List Answered
    left_ended = (Tau, under_both under (Some Omega) (within_limits q)) ∷ []

    abbrev left_answer : Action → Option Process → List Answered
    left_answer = stay_answer left_free from_left left_ended

    abbrev right_does : Action → Process → Steps
    right_does = stay right_free (λ u. under p u) ((Tau, under p Omega) ∷ [])

    abbrev from_right : Option Process → Option Process
    from_right u = under_both under (within_limits p) u

    abbrev right_ended : List Answered
    right_ended = (Tau, under_both under (within_limits p) (Some Omega)) ∷ []

    abbrev right_answer : Action → Option Process → List Answered
    right_answer = stay_answer right_free from_right right_ended

    abbrev both_do : Action → Process → Steps
    both_do x t = each_step (meet shared under x t) qs

    abbrev both_answer : Action → Option Process → List Answered
    both_answer x t = each_answer (meet_answer shared under x t) cs

    abbrev ends : List Answered
    ends = ended_answer (within_limits p) (within_limits q)

    lefts : AreAnswered (each_step left_does ps) (each_answer left_answer bs)
    lefts = each_answered left_does left_answer
        (stay_answered from_left (λ t. under t q) (λ t. keeps t q) left_free ((Tau, under Omega q) ∷ []) left_ended (one_answered Tau (under_both under (Some Omega) (within_limits q)) (under Omega q) (keeps Omega q))) ps bs first

    rights : AreAnswered (each_step right_does qs) (each_answer right_answer cs)
    rights = each_answered right_does right_answer
        (stay_answered from_right (λ u. under p u) (keeps p) right_free ((Tau, under p Omega) ∷ []) right_ended (one_answered Tau (under_both under (within_limits p) (Some Omega)) (under p Omega) (keeps p Omega))) qs cs second

    together : AreAnswered (each_step both_do ps) (each_answer both_answer bs)
    together = each_answered both_do both_answer (λ x t. each_answered (meet shared under x t) (meet_answer shared under x (within_limits t)) (meet_answered x t) qs cs second) ps bs first

    pub parallel_answered : AreAnswered (parallel_steps left_free right_free shared under p ps q qs) (parallel_answers left_free right_free shared under (within_limits p) bs (within_limits q) cs)
    parallel_answered =
        both_answered (each_step left_does ps) (each_step right_does qs ++ (each_step both_do ps ++ both_ended p q)) (each_answer left_answer bs) (each_answer right_answer cs ++ (each_answer both_answer bs ++ ends)) lefts
        (both_answered (each_step right_does qs) (each_step both_do ps ++ both_ended p q) (each_answer right_answer cs) (each_answer both_answer bs ++ ends) rights
        (both_answered (each_step both_do ps) (both_ended p q) (each_answer both_answer bs) ends together (ended_answered p q)))

-- ---- the three operators

module _ (s : Script) (p q : Process) where
  -- once the sets have no cause, the causes are those of the processes
  pub generalised_rest : (a : EventSet) → result_err (event_test s a) ≡ None → cause_in s (GeneralisedParallel p a q) ≡ option_or (cause_in s p) (cause_in s q)
  generalised_rest a clear = generalised_cause s p a q ∙ ap (λ o. option_or o (option_or (cause_in s p) (cause_in s q))) clear

  pub alphabetised_rest : (a b : EventSet) → result_err (event_test s a) ≡ None → result_err (event_test s b) ≡ None → cause_in s (AlphabetisedParallel p a b q) ≡ option_or (cause_in s p) (cause_in s q)
  alphabetised_rest a b clear also = alphabetised_cause s p a b q ∙ ap₂ (λ o r. option_or o (option_or r (option_or (cause_in s p) (cause_in s q)))) clear also

  module _ (bs cs : List Answered) (first : IsAnswered s p bs) (second : IsAnswered s q cs) where
    abbrev ps : Steps
    ps = steps_within (max (height p) (height q)) s p

    abbrev qs : Steps
    qs = steps_within (max (height p) (height q)) s q

    firsts : AreAnswered ps bs
    firsts = its_steps s p ps (exact_within (max (height p) (height q)) s p (omega arith)) bs first

    seconds : AreAnswered qs cs
    seconds = its_steps s q qs (exact_within (max (height p) (height q)) s q (omega arith)) cs second

    module _ (whole : Process) (left_free right_free shared : Event → Bool) (under : Process → Process → Process) (are : StepsAre s whole (parallel_steps left_free right_free shared under p ps q qs)) (is : cause_in s whole ≡ option_or (cause_in s p) (cause_in s q))
        (first_past : (q : Process) → StaysPast (λ p. under p q)) (second_past : (p : Process) → StaysPast (λ q. under p q)) where
      side_by_side : IsAnswered s whole (parallel_answers left_free right_free shared under (within_limits p) bs (within_limits q) cs)
      side_by_side =
          by_its_steps s whole (parallel_steps left_free right_free shared under p ps q qs) are (parallel_answers left_free right_free shared under (within_limits p) bs (within_limits q) cs) (clear_of_both s p q whole is first.no_cause second.no_cause)
          (parallel_answered shared under first_past second_past left_free right_free p ps bs firsts q qs cs seconds)

    pub interleaving_answered : IsAnswered s (Interleaving p q) (parallel_answers always always never Interleaving (within_limits p) bs (within_limits q) cs)
    interleaving_answered = side_by_side (Interleaving p q) always always never Interleaving (exact s (Interleaving p q)) (interleaving_cause s p q) interleaving_first interleaving_second

    pub generalised_answered : (a : EventSet) → result_err (event_test s a) ≡ None →
        IsAnswered s (GeneralisedParallel p a q) (parallel_answers (λ e. not (has_event s a e)) (λ e. not (has_event s a e)) (has_event s a) (λ t u. GeneralisedParallel t a u) (within_limits p) bs (within_limits q) cs)
    generalised_answered a clear =
        side_by_side (GeneralisedParallel p a q) (λ e. not (has_event s a e)) (λ e. not (has_event s a e)) (has_event s a) (λ t u. GeneralisedParallel t a u) (exact s (GeneralisedParallel p a q)) (generalised_rest a clear) (generalised_first a) (λ p. generalised_second p a)

    pub alphabetised_answered : (a b : EventSet) → result_err (event_test s a) ≡ None → result_err (event_test s b) ≡ None →
        IsAnswered s (AlphabetisedParallel p a b q)
        (parallel_answers (λ e. has_event s a e && not (has_event s b e)) (λ e. has_event s b e && not (has_event s a e)) (λ e. has_event s a e && has_event s b e) (λ t u. AlphabetisedParallel t a b u) (within_limits p) bs (within_limits q) cs)
    alphabetised_answered a b clear also =
        side_by_side (AlphabetisedParallel p a b q) (λ e. has_event s a e && not (has_event s b e)) (λ e. has_event s b e && not (has_event s a e)) (λ e. has_event s a e && has_event s b e) (λ t u. AlphabetisedParallel t a b u)
        (exact s (AlphabetisedParallel p a b q)) (alphabetised_rest a b clear also) (alphabetised_first a b) (λ p. alphabetised_second p a b)
