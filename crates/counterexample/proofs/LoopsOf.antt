-- Loops that lassos are told as.
use Rattle.std.proofs.Common.{◌≡◌, ◌<◌, ℕ, List, [], ◌∷◌, ◌++◌, Vec, Option, Some, None, length, map, option_map, replicate, slice_get, sym, subst, arith}
use Rattle.std.proofs.lemmas.List.{length-map}
use Rattle.std.proofs.lemmas.Option.{slice_get_within}
use Rattle.theory_syntax.specs.Value.{Tau}
use Rattle.theory_syntax.specs.Process.{Process, Script}
use Rattle.theory_semantics.specs.Meaning.Violations.{Evidence, ByEvent, ByOffers, ByDeadlock, ByDivergence}
use Rattle.theory_explanation.specs.Counterexamples.{AreOriginsAlong, IsLoopFor}
use Rattle.csp_term.specs.Term.{process_of}
use Rattle.csp_term.specs.declared.term.Term.{Term}
use Rattle.csp_moves.specs.declared.origin.Origin.{Origin}
use Rattle.csp_replay.specs.Endings.{IsLassoFor}
use Rattle.csp_replay.specs.declared.lasso.Lasso.{Lasso}
use Rattle.counterexample.specs.Counterexample.{ComesBack, GoesRound, IsLoopOf, loop_of, origins_listed}
use Rattle.counterexample.specs.declared.looping.Looping.{Looping}

module _ (A : Type 0) (script : Script) where
  -- the lasso of a divergence comes back, and there is no other
  pub comes_back : (e : Evidence) (t : Process) (lasso : Option (Lasso A)) → IsLassoFor script e t lasso → ComesBack lasso
  comes_back (ByEvent x) t (Some lasso) is = absurd is
  comes_back (ByOffers xs) t (Some lasso) is = absurd is
  comes_back ByDeadlock t (Some lasso) is = absurd is
  comes_back ByDivergence t (Some lasso) is =
      let inside : lasso.back < length (map process_of lasso.states.items) = slice_get_within (map process_of lasso.states.items) lasso.back is.0 is.1.stands in
      let long = length-map lasso.states.items process_of in
      omega (arith, inside, long)
  comes_back (ByEvent x) t None is = tt
  comes_back (ByOffers xs) t None is = tt
  comes_back ByDeadlock t None is = tt
  comes_back ByDivergence t None is = tt

  pub loop_told : (e : Evidence) (t : Process) (lasso : Option (Lasso A)) (l : Option (Looping A)) → IsLassoFor script e t lasso → IsLoopOf script lasso l → IsLoopFor script e t (option_map loop_of l)
  loop_told (ByEvent x) t (Some lasso) l is told = absurd is
  loop_told (ByOffers xs) t (Some lasso) l is told = absurd is
  loop_told ByDeadlock t (Some lasso) l is told = absurd is
  loop_told ByDivergence t (Some lasso) (Some l) is told = told t is
  loop_told ByDivergence t (Some lasso) None is told = absurd told
  loop_told ByDivergence t None l is told = absurd is
  loop_told (ByEvent x) t None None is told = tt
  loop_told (ByOffers xs) t None None is told = tt
  loop_told ByDeadlock t None None is told = tt
  loop_told (ByEvent x) t None (Some l) is told = absurd told
  loop_told (ByOffers xs) t None (Some l) is told = absurd told
  loop_told ByDeadlock t None (Some l) is told = absurd told

  -- a lasso is told as a loop where its taus have their origins
  pub is_loop : (states : Vec (Term A) A) (back : ℕ) (origins : Vec (Option (Origin A)) A) →
      ((again : Process) → slice_get (map process_of states.items) back ≡ Some again → AreOriginsAlong script (replicate (length states.items) Tau) (map process_of states.items ++ again ∷ []) (origins_listed origins.items)) →
      IsLoopOf script (Some (record { states = states; back = back })) (Some (record { states = states; back = back; origins = origins }))
  is_loop states back origins told = λ t is.
      let taus = sym (length-map states.items process_of) in
      record {
        again = is.0;
        lasso = is.1;
        told = subst (λ k. AreOriginsAlong script (replicate k Tau) (map process_of states.items ++ is.0 ∷ []) (origins_listed origins.items)) taus (told is.0 is.1.stands);
      }

  -- the last tau of a loop that is told leads back to one of its states
  pub goes_round : (e : Evidence) (t : Process) (l : Option (Looping A)) → IsLoopFor script e t (option_map loop_of l) → GoesRound l
  goes_round (ByEvent x) t (Some l) is = absurd is
  goes_round (ByOffers xs) t (Some l) is = absurd is
  goes_round ByDeadlock t (Some l) is = absurd is
  goes_round ByDivergence t (Some l) is =
      let inside : l.back < length (map process_of l.states.items) = slice_get_within (map process_of l.states.items) l.back is.again is.lasso.stands in
      let long = length-map l.states.items process_of in
      omega (arith, inside, long)
  goes_round (ByEvent x) t None is = tt
  goes_round (ByOffers xs) t None is = tt
  goes_round ByDeadlock t None is = tt
  goes_round ByDivergence t None is = tt
