-- Equations are solved one after the other.
use Rattle.std.proofs.Common.{ℕ, ◌+◌, ◌<◌, List, [], ◌∷◌, ◌++◌, length, map, take, drop, get_or, Err, sym, subst, ◌∙◌, ap}
use Rattle.std.proofs.lemmas.List.{take_more, drop_more, take-append-drop, map-append}
use Rattle.theory_checking.specs.Inference.State as pure
use Rattle.theory_checking.specs.Inference.State.{State, IsSolved, HasNoSolution}
use Rattle.theory_checking.proofs.Unifying.{solved_then, unsolved_then, unsolved_first}
use Rattle.csp_inference.specs.declared.equations.KindEquation.{KindEquation}
use Rattle.csp_inference.specs.declared.misfit.Misfit.{Misfit}
use Rattle.csp_inference.specs.declared.misfit.Misfit.TheVariants as misfit
use Rattle.csp_inference.specs.Equations.{equation_of}
use Rattle.csp_inference.specs.State.{Solved}

module _ (s t : State) (es : List KindEquation) (i : ℕ) (d : KindEquation) (within : i < length es) (so_far : IsSolved s (map equation_of (take i es)) t) where
  -- one equation more is solved
  pub solved_more : (u : State) → IsSolved t (equation_of (get_or es i d) ∷ []) u → IsSolved s (map equation_of (take (i + 1) es)) u
  solved_more u next =
      let one = ap (map equation_of) (take_more es i d within) ∙ map-append equation_of (take i es) (get_or es i d ∷ []) in
      let P : List pure.KindEquation → Type 0 = λ xs. IsSolved s xs u in
      subst P (sym one) (solved_then s t u (map equation_of (take i es)) (equation_of (get_or es i d) ∷ []) so_far next)

  -- the first one that has no solution
  pub solved_no_more : (u v : State) (e : Misfit) → Solved t (equation_of (get_or es i d) ∷ []) u (Err e) → Solved s (map equation_of es) v (Err e)
  solved_no_more u v misfit.Memory next = tt
  solved_no_more u v misfit.NoKinds next =
      let parts = ap (map equation_of) (sym (take-append-drop i es) ∙ ap (λ xs. take i es ++ xs) (drop_more es i d within)) ∙ map-append equation_of (take i es) (get_or es i d ∷ drop (i + 1) es) in
      let P : List pure.KindEquation → Type 0 = λ xs. HasNoSolution s xs in
      subst P (sym parts)
      (unsolved_then s t (map equation_of (take i es)) (map equation_of (get_or es i d ∷ drop (i + 1) es)) so_far
      (unsolved_first t (equation_of (get_or es i d) ∷ []) (map equation_of (drop (i + 1) es)) next))
