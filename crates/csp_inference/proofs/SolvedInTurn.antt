-- The equations of one thing more are asked for, and then solved.
use Rattle.std.proofs.Common.{◌≡◌, ℕ, List, [], ◌++◌, Result, Ok, Err, sym, subst, ◌∙◌, ap}
use Rattle.std.specs.Prelude.{IsErr, IsErrAnd}
use Rattle.std.proofs.lemmas.Result.{err_from_is_err_and}
use Rattle.theory_semantics.specs.Kinds.Kind.{IntKind}
use Rattle.theory_checking.specs.Inference.State.{State, KindEquation, IsResolved, IsSolved, HasNoSolution}
use Rattle.theory_checking.proofs.Unifying.{chosen, nothing_done, same_after, same_before, same_none}
use Rattle.csp_inference.specs.declared.misfit.Misfit.{Misfit}
use Rattle.csp_inference.specs.declared.misfit.Misfit.TheVariants as misfit
use Rattle.csp_inference.specs.declared.equations.Equations.{Equations}
use Rattle.csp_inference.specs.Equations.{Adds, AreHopeless, Asks, equations_of, exactly, hopelessly}
use Rattle.csp_inference.specs.State.{SaysTheSame, Solved, state_in}
use Rattle.csp_inference.proofs.Asking.{asks_knows}
use Rattle.csp_inference.specs.declared.known_kinds.KnownKinds.{KnownKinds}
use Rattle.csp_inference.specs.Solving.{AsksFor, SolvedFor}

-- equations without a solution are not solved
solved_not : (s t : State) (es : List KindEquation) → AreHopeless es → IsSolved s es t → ⊥
solved_not s t es none solved = let a = chosen t (λ n. IntKind) solved.resolved in none a.0 ((solved.just a.0).0 a.1).1

-- a state that says the same is resolved too
resolved_same : (s t : State) → SaysTheSame s t → IsResolved s → IsResolved t
resolved_same s t same resolved = (same_after s s t [] same (nothing_done s [] resolved (λ a h. tt))).resolved

module _ {A : Type 0} (old : KnownKinds A) (s t : Equations A) (es : List KindEquation) (m : ℕ) (kept : s.state ≡ old.equations.state) (asks : Asks s t es m) where
  known : SaysTheSame (state_in old.equations.state) (state_in t.state)
  known = λ n. ap (λ x. state_in x n) (sym kept) ∙ asks_knows s t es m asks n

  -- what is known while the equations are asked for
  pub asked_resolved : IsResolved (state_in old.equations.state) → IsResolved (state_in t.state)
  asked_resolved resolved = resolved_same (state_in old.equations.state) (state_in t.state) known resolved

module _ {A : Type 0} (old new : KnownKinds A) (s t : Equations A) (es : List KindEquation) (m : ℕ) (empty : equations_of s ≡ []) (kept : s.state ≡ old.equations.state) where
  abbrev Answered : Result (Unit {0}) Misfit → Type 0
  Answered r = Solved (state_in t.state) (equations_of t) (state_in new.equations.state) r

  exact : Adds s t es m → equations_of t ≡ es
  exact adds = adds.met ∙ ap (λ fs. fs ++ es) empty

  back : Asks s t es m → SaysTheSame (state_in t.state) (state_in old.equations.state)
  back asks = λ n. sym (known old s t es m kept asks n)

  pub asked_solves : Asks s t es m → (r : Result (Unit {0}) Misfit) → Answered r → new.numbering ≡ old.numbering → new.equations.next ≡ t.next → SolvedFor old es m new r
  asked_solves (exactly adds) (Ok u) solved same next = record {
    numbering = same;
    next = next ∙ adds.next;
    solved =
        same_before (state_in t.state) (state_in new.equations.state) (state_in old.equations.state) es (back (exactly adds))
        (subst (λ fs. IsSolved (state_in t.state) fs (state_in new.equations.state)) (exact adds) solved);
  }
  asked_solves (exactly adds) (Err misfit.NoKinds) none same next =
      same_none (state_in t.state) (state_in old.equations.state) es (back (exactly adds)) (subst (HasNoSolution (state_in t.state)) (exact adds) none)
  asked_solves (exactly adds) (Err misfit.Memory) h same next = tt
  asked_solves (hopelessly whole now alike) (Ok u) solved same next = absurd (solved_not (state_in t.state) (state_in new.equations.state) (equations_of t) now solved)
  asked_solves (hopelessly whole now alike) (Err misfit.NoKinds) none same next = λ a satisfies solves. subst AreHopeless (ap (λ fs. fs ++ es) empty) whole a solves
  asked_solves (hopelessly whole now alike) (Err misfit.Memory) h same next = tt

-- what is not asked for has no solution
pub unasked_solves : {A : Type 0} (old new : KnownKinds A) (s t : Equations A) (es : List KindEquation) (m : ℕ) (e : Misfit) → AsksFor s es m t (Err e) → SolvedFor old es m new (Err e)
unasked_solves old new s t es m misfit.NoKinds none = λ a satisfies solves. none a solves
unasked_solves old new s t es m misfit.Memory h = tt

-- an error is handed on as it is
pub handed_on : {T E : Type 0} (P : Result T E → Type 0) (r : Result T E) (e : E) → IsErr r × IsErrAnd r (λ x. x ≡ e) → P (Err e) → P r
handed_on P r e same h = let p = err_from_is_err_and r same.1 in subst P (sym (p.1 ∙ ap Err p.2)) h
