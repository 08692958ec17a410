-- Steps among those that are answered.
use Rattle.std.proofs.Common.{◌≡◌, zero, suc, List, [], ◌∷◌, map, Option, None, refl, sym, ap, inl, inr, Contains, arith}
use Rattle.theory_syntax.specs.Value.{Action}
use Rattle.theory_syntax.specs.Process.{Process, Script}
use Rattle.theory_semantics.specs.Meaning.Faults.{cause_in}
use Rattle.theory_semantics.specs.Meaning.Stepping.{Steps}
use Rattle.theory_semantics.specs.Laws.Statements.{IsOneOf, StepsAre}
use Rattle.csp_steps.specs.Answering.{Answered, IsAnswered, kept, within_limits}

-- ---- members of a list of steps

pub one_of_contains : (ss : Steps) (x : Action) (u : Process) → Contains ss (x, u) → IsOneOf ss x u
one_of_contains [] x u (k, h, e) = absurd (omega arith)
one_of_contains (s ∷ ss) x u (zero, h, e) = inl (ap (λ z. z.0) (sym e), ap (λ z. z.1) (sym e))
one_of_contains (s ∷ ss) x u (suc k, h, e) = inr (one_of_contains ss x u (k, omega arith, e))

pub contains_one_of : (ss : Steps) (x : Action) (u : Process) → IsOneOf ss x u → Contains ss (x, u)
contains_one_of [] x u h = absurd h
contains_one_of (s ∷ ss) x u (inl e) = (0, omega arith, λ i. (sym e.0 i, sym e.1 i))
contains_one_of (s ∷ ss) x u (inr h) = let r = contains_one_of ss x u h in (suc r.0, omega (arith, r.1), r.2)

-- ---- what is answered of them

module _ (meaning : Process → Option Process) (x : Action) where
  -- what is answered of a step is among what is answered of all
  pub step_among : (ss : Steps) (u : Process) → IsOneOf ss x u → Contains {X = Answered} (map (λ s. (s.0, meaning s.1)) ss) (x, meaning u)
  step_among [] u h = absurd h
  step_among (s ∷ ss) u (inl e) = (0, omega arith, λ i. (sym e.0 i, meaning (sym e.1 i)))
  step_among (s ∷ ss) u (inr h) = let r = step_among ss u h in (suc r.0, omega (arith, r.1), r.2)

  -- and nothing else is
  pub among_steps : (ss : Steps) (t : Option Process) → Contains {X = Answered} (map (λ s. (s.0, meaning s.1)) ss) (x, t) → (u : Process) × IsOneOf ss x u × (t ≡ meaning u)
  among_steps [] t (k, h, e) = absurd (omega arith)
  among_steps (s ∷ ss) t (zero, h, e) = (s.1, inl (ap (λ z. z.0) (sym e), refl), ap (λ z. z.1) (sym e))
  among_steps (s ∷ ss) t (suc k, h, e) = let r = among_steps ss t (k, omega arith, e) in (r.0, inr r.1, r.2)

-- What is answered of these steps: each of them, and no others.
pub record AreAnswered (ss : Steps) (answers : List Answered) : Type 0 where
  pub sound : (x : Action) (t : Option Process) → Contains answers (x, t) → (u : Process) × IsOneOf ss x u × (t ≡ within_limits u)
  pub complete : (x : Action) (u : Process) → IsOneOf ss x u → Contains answers (x, within_limits u)

pub kept_answers : (ss : Steps) → AreAnswered ss (map kept ss)
kept_answers ss = record { sound = λ x t h. among_steps within_limits x ss t h; complete = λ x u h. step_among within_limits x ss u h }

module _ (s : Script) (p : Process) (ss : Steps) (are : StepsAre s p ss) (answers : List Answered) where
  -- a term is answered by what is answered of its steps
  pub by_its_steps : cause_in s p ≡ None → AreAnswered ss answers → IsAnswered s p answers
  by_its_steps clear all = record {
    no_cause = clear;
    sound = λ x t h. let r = all.sound x t h in (r.0, (are x r.0).1 r.1, r.2);
    complete = λ x u step. all.complete x u ((are x u).0 step);
  }

  -- and they are by what is answered of it
  pub its_steps : IsAnswered s p answers → AreAnswered ss answers
  its_steps all = record {
    sound = λ x t h. let r = all.sound x t h in (r.0, (are x r.0).0 r.1, r.2);
    complete = λ x u h. all.complete x u ((are x u).1 h);
  }

-- a term is answered by its steps
pub answered_by : (s : Script) (p : Process) (ss : Steps) → cause_in s p ≡ None → StepsAre s p ss → IsAnswered s p (map kept ss)
answered_by s p ss clear are = by_its_steps s p ss are (map kept ss) clear (kept_answers ss)
