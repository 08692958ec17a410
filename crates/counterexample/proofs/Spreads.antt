-- Replays and lassos that are spread are told by the script as it is written.
use Rattle.std.proofs.Common.{◌≡◌, ℕ, List, Option, Some, None, length, map, replicate, sym, subst}
use Rattle.theory_syntax.specs.Value.{Tau}
use Rattle.theory_syntax.specs.Process.{Process, Assertion, specification_of, ByTau, AtOnce, Script}
use Rattle.theory_syntax.specs.Readings.{by_tau}
use Rattle.theory_semantics.specs.Kinds.Scripts.{IsTermOf}
use Rattle.theory_semantics.proofs.ReadingKinds.{term_read}
use Rattle.theory_semantics.specs.Meaning.Violations.{Evidence, ByEvent, ByOffers, ByDeadlock, ByDivergence, Violation}
use Rattle.theory_runs.specs.States.{IsReplay, Shows}
use Rattle.theory_runs.proofs.Visiting.{first_state}
use Rattle.theory_spread_runs.specs.Spread.{Spreads}
use Rattle.theory_spread_runs.proofs.Showing.{shown_by_tau}
use Rattle.theory_spread_runs.proofs.Spreading.{spread_visits}
use Rattle.theory_explanation.specs.Counterexamples.{IsToldBeside, by_path}
use Rattle.csp_term.specs.Term.{process_of}
use Rattle.csp_replay.specs.Endings.{IsLassoFor}
use Rattle.csp_replay.specs.declared.lasso.Lasso.{Lasso}
use Rattle.spread_runs.specs.Spread.{SpreadsLoop}
use Rattle.spread_runs.specs.declared.loops.SpreadLoop.{SpreadLoop}
use Rattle.spread_runs.proofs.Rounds.{first_same}
use Rattle.verdict.specs.Outcome.{violation_of}
use Rattle.counterexample.specs.Counterexample.{IsReplayed, counterexample_of}
use Rattle.counterexample.specs.Spreading.{BeginsIn, IsSpread}
use Rattle.counterexample.specs.declared.spreading.Spread.{Spread}

module _ (A : Type 0) (script written : Script) (is : written ≡ by_tau script) where
  -- a term of the script is one of the script as it is written
  pub term_written : (t : Process) → IsTermOf script t → IsTermOf written t
  term_written t closed = let T : Script → Type 0 = λ s. IsTermOf s t in subst T (sym is) (term_read ByTau script t closed)

  -- the lasso at the end of a replay begins there
  pub begins_in : (e : Evidence) (t : Process) (lasso : Option (Lasso A)) → IsTermOf script t → IsLassoFor script e t lasso → BeginsIn written lasso
  begins_in (ByEvent x) t (Some lasso) closed has = absurd has
  begins_in (ByOffers xs) t (Some lasso) closed has = absurd has
  begins_in ByDeadlock t (Some lasso) closed has = absurd has
  begins_in ByDivergence t (Some lasso) closed has = λ u first.
      let states = map process_of lasso.states.items in
      let begins = first_state script (replicate (length states) Tau) t has.0 _ has.1.visits in
      subst (IsTermOf written) (sym (first_same states has.0 u t first begins)) (term_written t closed)
  begins_in (ByEvent x) t None closed has = tt
  begins_in (ByOffers xs) t None closed has = tt
  begins_in ByDeadlock t None closed has = tt
  begins_in ByDivergence t None closed has = tt

  module _ (t start : Process) (v w : Violation) (states more : List Process) (spread : Spreads written t v.path states w.path more) (like : w ≡ by_path w.path v) where
    -- what is spread of a replay is one, and so is its lasso
    pub replayed_by_tau : (lasso l : Option (Lasso A)) → IsReplayed script start v states lasso → ((other : Script) (e : Evidence) (u : Process) → IsLassoFor other e u lasso → IsLassoFor written e u l) →
        IsReplayed written t w more l
    replayed_by_tau lasso l replayed lassos =
        let replay = replayed.0 in
        let H : Script → Type 0 = λ s. Shows s replay.end v.evidence in
        let shows : Shows written replay.end v.evidence = subst H (sym is) (shown_by_tau script replay.end v.evidence replay.shows) in
        let R : Violation → Type 0 = λ x. IsReplayed written t x more l in
        subst R (sym like) (record { end = replay.end; visits = spread_visits written script spread start replay.end replay.visits; shows = shows }, lassos script v.evidence replay.end replayed.1)

  -- what is told by these sides is told of the violation at once
  pub told_by_tau : (t : Process) (a : Assertion) (v : Violation) (n : ℕ) (states : List Process) (more : List Process) (spec : Option Process) (s : Spread A) → script.unfolds ≡ AtOnce →
      IsReplay script a.implementation v states → Spreads written t v.path states (violation_of s.shown).path more → violation_of s.shown ≡ by_path (violation_of s.shown).path v →
      map process_of s.counterexample.states.items ≡ more → spec ≡ specification_of a.property → IsToldBeside written t script spec (violation_of s.shown) n (counterexample_of s.counterexample) → IsSpread script t a v n s
  told_by_tau t a v n states more spec s at_once replay spread like same asked told =
      let path = (violation_of s.shown).path in
      let c = counterexample_of s.counterexample in
      let M : List Process → Type 0 = λ ms. Spreads written t v.path states path ms in
      let W : Script → Type 0 = λ r. Spreads r t v.path states path c.states in
      let S : Option Process → Type 0 = λ o. IsToldBeside written t script o (violation_of s.shown) n c in
      let V : Violation → Type 0 = λ x. IsToldBeside written t script (specification_of a.property) x n c in
      let T : Script → Type 0 = λ r. IsToldBeside r t script (specification_of a.property) (by_path path v) n c in
      record {
        like = like;
        told = record {
          at_once = at_once;
          states = states;
          replay = replay;
          spread = subst W is (subst M (sym same) spread);
          told = subst T is (subst V like (subst S asked told));
        };
      }

-- a lasso by which a loop was found
pub lasso_found : (A : Type 0) (written : Script) (lasso : Lasso A) (l : SpreadLoop A) → SpreadsLoop written (map process_of lasso.states.items) lasso.back l → (other : Script) (e : Evidence) (t : Process) →
    IsLassoFor other e t (Some lasso) → IsLassoFor written e t (Some (record { states = l.states; back = l.back }))
lasso_found A written lasso l loops other (ByEvent x) t is = absurd is
lasso_found A written lasso l loops other (ByOffers xs) t is = absurd is
lasso_found A written lasso l loops other ByDeadlock t is = absurd is
lasso_found A written lasso l loops other ByDivergence t is = (is.0, loops other t is.0 is.1)

-- where there is none
pub none_found : (A : Type 0) (other written : Script) (e : Evidence) (t : Process) → IsLassoFor {A = A} other e t None → IsLassoFor {A = A} written e t None
none_found A other written (ByEvent x) t is = tt
none_found A other written (ByOffers xs) t is = tt
none_found A other written ByDeadlock t is = tt
none_found A other written ByDivergence t is = absurd is
