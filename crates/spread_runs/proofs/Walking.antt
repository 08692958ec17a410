-- Walks go on, and spread more.
use Rattle.std.proofs.Common.{◌≡◌, ℕ, zero, suc, ◌+◌, List, [], ◌∷◌, ◌++◌, length, ◌≤◌, map, take, slice_get, Option, Some, None, Result, Ok, Err, IfOk, IfSome, sym, ◌∙◌, ap, subst, arith}
use Rattle.theory_search.proofs.Adding.{take_whole}
use Rattle.theory_syntax.specs.Value as pure
use Rattle.theory_syntax.specs.Value.{Tau}
use Rattle.theory_syntax.specs.Process.{Process, Script}
use Rattle.theory_semantics.specs.Kinds.Scripts.{IsTermOf}
use Rattle.theory_semantics.specs.Meaning.Transitions.{Step}
use Rattle.theory_spread_runs.specs.Spread.{IsBegun}
use Rattle.theory_spread_runs.proofs.Begun.{begun_here, begun_tau, begun_act, begun_end}
use Rattle.csp_value.specs.Action.{action_of}
use Rattle.csp_value.specs.declared.action.Action.{Action}
use Rattle.csp_term.specs.Term.{process_of}
use Rattle.csp_term.specs.declared.term.Term.{Term}
use Rattle.spread_runs.specs.declared.walk.Walk.{Walk}
use Rattle.spread_runs.specs.Spread.{SpreadsWalk}
use Rattle.spread_runs.specs.Walk.{GoesOn, GoesTo, GoesToBy, IsAlong, IsAt, IsOneOn, Tells}

told_as : (script : Script) (t : Process) (path : List pure.Action) (states : List Process) (l k : List pure.Action) (m n : List Process) (u v : Process) → l ≡ k → m ≡ n → u ≡ v →
    IsBegun script t path states k n v → IsBegun script t path states l m u
told_as script t path states l k m n u v same alike at begun =
    let L : List pure.Action → Type 0 = λ z. IsBegun script t path states z m u in
    let M : List Process → Type 0 = λ z. IsBegun script t path states k z u in
    let U : Process → Type 0 = λ z. IsBegun script t path states k n z in
    subst L (sym same) (subst M (sym alike) (subst U (sym at) begun))

module _ (A : Type 0) (script : Script) where
  pub at_start : (t : Process) (w : Walk A) → IsAt t w → Tells script t [] [] w
  at_start t w at = told_as script t [] [] (map action_of w.path.items) [] (map process_of w.behind.items) [] (process_of w.here) t at.path at.behind at.here (begun_here script t)

  on_by_tau : (old new : Walk A) (u t : Process) (path : List pure.Action) (states : List Process) → IsOneOn Tau u old new → Step script (process_of old.here) Tau u →
      Tells script t path states old → Tells script t path states new
  on_by_tau old new u t path states on step tells =
      let l = map action_of old.path.items in
      let m = map process_of old.behind.items in
      let here = process_of old.here in
      told_as script t path states (map action_of new.path.items) (l ++ Tau ∷ []) (map process_of new.behind.items) (m ++ here ∷ []) (process_of new.here) u on.path on.behind on.here
      (begun_tau script t path states l m here u tells step)

  on_by : (old new : Walk A) (x : pure.Action) (u t : Process) (path : List pure.Action) (states : List Process) → IsOneOn x u old new → Step script (process_of old.here) x u →
      Tells script t path states old → Tells script t (path ++ x ∷ []) (states ++ process_of old.here ∷ []) new
  on_by old new x u t path states on step tells =
      let l = map action_of old.path.items in
      let m = map process_of old.behind.items in
      let here = process_of old.here in
      told_as script t (path ++ x ∷ []) (states ++ here ∷ []) (map action_of new.path.items) (l ++ x ∷ []) (map process_of new.behind.items) (m ++ here ∷ []) (process_of new.here) u on.path on.behind on.here
      (begun_act script t path states l m here x u tells step)

  pub stays : (w : Walk A) → IsTermOf script (process_of w.here) → GoesOn script w w
  stays w closed = record { tells = λ t path states told. told; closed = closed }

  pub one_more : (first old new : Walk A) (u : Process) → GoesOn script first old → IsOneOn Tau u old new → Step script (process_of old.here) Tau u → IsTermOf script u → GoesOn script first new
  one_more first old new u gone on step closed = record {
    tells = λ t path states told. on_by_tau old new u t path states on step (gone.tells t path states told);
    closed = subst (IsTermOf script) (sym on.here) closed;
  }

  pub by_step : (old mid new : Walk A) (x : pure.Action) (u target : Process) → IsOneOn x u old mid → Step script (process_of old.here) x u → GoesTo script target mid new → GoesToBy script x target old new
  by_step old mid new x u target on step to = record {
    tells = λ t path states told. to.on.tells t (path ++ x ∷ []) (states ++ process_of old.here ∷ []) (on_by old mid x u t path states on step told);
    closed = to.on.closed;
    there = to.there;
  }

  pub gone_by : {E : Type 0} (old mid : Walk A) (x : pure.Action) (u target : Process) → IsOneOn x u old mid → Step script (process_of old.here) x u → (r : Result (Option (Walk A)) E) →
      IfOk r (λ o. IfSome o (GoesTo script target mid)) → IfOk r (λ o. IfSome o (GoesToBy script x target old))
  gone_by old mid x u target on step (Ok (Some new)) to = by_step old mid new x u target on step to
  gone_by old mid x u target on step (Ok None) to = tt
  gone_by old mid x u target on step (Err e) to = tt

  -- ---- along a path

  pub along_first : (t first : Process) (states : List Process) (begun w : Walk A) → IsAt t begun → GoesTo script first begun w → slice_get states 0 ≡ Some first → IsAlong script t [] [] states 0 w
  along_first t first states begun w at to stands = record {
    tells = to.on.tells t [] [] (at_start t begun at);
    closed = to.on.closed;
    stands = stands ∙ ap Some (sym to.there);
  }

  pub along_more : (t target : Process) (path : List pure.Action) (before states : List Process) (i : ℕ) (x : pure.Action) (old new : Walk A) → IsAlong script t path before states i old →
      GoesToBy script x target old new → slice_get states (i + 1) ≡ Some target → IsAlong script t (path ++ x ∷ []) (before ++ process_of old.here ∷ []) states (i + 1) new
  along_more t target path before states i x old new along by stands = record {
    tells = by.tells t path before along.tells;
    closed = by.closed;
    stands = stands ∙ ap Some (sym by.there);
  }

-- the first few, and one more
take_suc : {S T : Type 0} (f : S → T) (items : List S) (i : ℕ) (y : T) → slice_get (map f items) i ≡ Some y → map f (take (suc i) items) ≡ map f (take i items) ++ y ∷ []
take_suc f [] i y at = absurd (cc at)
take_suc f (s ∷ items) zero y at = let same : f s ≡ y = cc at in ap (λ z. z ∷ []) same
take_suc f (s ∷ items) (suc i) y at = ap (λ ys. f s ∷ ys) (take_suc f items i y at)

pub take_at : {S T : Type 0} (f : S → T) (items : List S) (i : ℕ) (y : T) → slice_get (map f items) i ≡ Some y → map f (take (i + 1) items) ≡ map f (take i items) ++ y ∷ []
take_at f items i y at =
    let next : suc i ≡ i + 1 = omega arith in
    subst (λ k. map f (take k items) ≡ map f (take i items) ++ y ∷ []) next (take_suc f items i y at)

pub along_whole : (A : Type 0) (script : Script) (t : Process) (path : List (Action A)) (states : List (Term A)) (i : ℕ) (w : Walk A) → length path ≤ i → length states ≤ i + 1 →
    IsAlong script t (map action_of (take i path)) (map process_of (take i states)) (map process_of states) i w → SpreadsWalk script t (map action_of path) (map process_of states) w
along_whole A script t path states i w past end along =
    let all = sym (take_at process_of states i (process_of w.here) along.stands) ∙ take_whole process_of states (i + 1) end in
    let P : List pure.Action → Type 0 = λ p. SpreadsWalk script t p (map process_of states) w in
    let S : List Process → Type 0 = λ ss. SpreadsWalk script t (map action_of (take i path)) ss w in
    subst P (take_whole action_of path i past)
    (subst S all (begun_end script t (map action_of (take i path)) (map process_of (take i states)) (map action_of w.path.items) (map process_of w.behind.items) (process_of w.here) along.tells))
