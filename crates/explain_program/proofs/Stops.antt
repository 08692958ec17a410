-- The path that stopped a search, and why there is none where no search was begun.
use Rattle.std.proofs.Common.{◌≡◌, ◌↔◌, inl, inr, List, Option, Some, None, IsNone, IfSome, map, refl, sym, ◌∙◌, ap, subst}
use Rattle.std.specs.declared.vec.Vec.{Vec}
use Rattle.theory_syntax.specs.Value as pure
use Rattle.theory_syntax.specs.Process.{Assertion, Script, specification_of}
use Rattle.theory_search.specs.Answer.{HasNoForm}
use Rattle.theory_search.specs.Outcome.{Bounds, Why, TooManyPairs, TooManyNodes, LargeTerm, Fault, NoMemory, Outcome, Holds, Fails, Unknown, Denied}
use Rattle.theory_search.specs.Search.{IsLawful, Mark, Search, Stopped, recorded_path}
use Rattle.theory_search.specs.Sound.{IsFor, ScriptSearch}
use Rattle.theory_runs.specs.Stops.{StopsSearch, mark_of, why_of}
use Rattle.theory_runs.specs.Stuck.{Hindrance, ByCause, BySize}
use Rattle.theory_runs.proofs.Stops.{marked_stop, stopped_have_row}
use Rattle.theory_explanation.specs.Faults.{hindrance}
use Rattle.csp_value.specs.Action.{action_of}
use Rattle.csp_value.specs.declared.action.Action.{Action}
use Rattle.pair_store.specs.Stopped.{IsStoppedBy, IsStoppedByNone, IsStuckFor}
use Rattle.explore.specs.Answering.{IsNotBegun, IsToldOrNoMemory}
use Rattle.explanation.specs.Running.{HasStop}
use Rattle.explain_program.specs.Stops.{stop_kept}

-- the path is that of the row that stopped the search; or no such row did
abbrev pub IsKeptStop : Search → Option (List pure.Action) → Type 0
IsKeptStop s (Some path) = IsStoppedBy s path
IsKeptStop s None = IsStoppedByNone s.rows s.verdict

pub kept_stop : {A : Type 0} (s : Search) (stop : Option (Vec (Action A) A)) → IfSome stop (λ path. IsStoppedBy s (map action_of path.items)) → (IsNone stop ↔ IsStoppedByNone s.rows s.verdict) → IsKeptStop s (stop_kept stop)
kept_stop s (Some path) some none = some
kept_stop s None some none = none.0 refl

-- ---- what is stuck by a thing stops for it

why_is : (why : Why) (h : Hindrance) → hindrance why ≡ Some h → why ≡ why_of h
why_is TooManyPairs h e = absurd (cc e)
why_is TooManyNodes h e = absurd (cc e)
why_is LargeTerm h e = let f : BySize ≡ h = cc e in ap why_of f
why_is (Fault c) h e = let f : ByCause c ≡ h = cc e in ap why_of f
why_is NoMemory h e = absurd (cc e)

mark_is : (h : Hindrance) (m : Mark) → IsStuckFor (why_of h) m → m ≡ mark_of h
mark_is (ByCause c) m is = is
mark_is BySize m is = is

stuck_for : (h : Hindrance) (m : Mark) → m ≡ mark_of h → IsStuckFor (why_of h) m
stuck_for (ByCause c) m is = is
stuck_for BySize m is = is

-- ---- a search that has ended

module _ (s : ScriptSearch) (lawful : IsLawful s.script s.search) where
  -- where it was stopped by a stuck row
  by_path : (why : Why) (stop : Option (List pure.Action)) → s.search.verdict ≡ Stopped why → IsKeptStop s.search stop → HasStop s.script s.search.assertion (Unknown why) stop
  by_path why (Some path) ended is = λ h e. (0, subst (StopsSearch s.script s.search.assertion h) (sym is.recorded) (stops h e))
    where
      same : is.stopped.why ≡ why
      same = let f : Stopped is.stopped.why ≡ Stopped why = sym is.stopped.ended ∙ ended in cc f

      stops : (h : Hindrance) → hindrance why ≡ Some h → StopsSearch s.script s.search.assertion h (recorded_path s.search.rows is.stopped.stuck.row)
      stops h e =
          let W : Why → Type 0 = λ w. IsStuckFor w is.stopped.stuck.row.mark in
          let stuck = subst W (same ∙ why_is why h e) is.stopped.stuck.stuck in
          marked_stop s.script s.search lawful h is.place is.stopped.stuck.row is.stopped.stuck.at (mark_is h is.stopped.stuck.row.mark stuck)
  by_path why None ended none = λ h e.
      let row = stopped_have_row s.script s.search lawful h (ended ∙ ap Stopped (why_is why h e)) in
      let W : Why → Type 0 = λ w. IsStuckFor w row.1.mark in
      absurd (none why ended row.0 row.1 row.2 (subst W (sym (why_is why h e)) (stuck_for h row.1.mark row.3)))

  no_memory : (stop : Option (List pure.Action)) (why : Why) → Unknown why ≡ Unknown NoMemory → HasStop s.script s.search.assertion (Unknown why) stop
  no_memory stop why e = λ h is. absurd (let f : NoMemory ≡ why = cc (sym e) in let g : hindrance NoMemory ≡ Some h = ap hindrance f ∙ is in cc g)

  -- whatever it tells
  pub told_stop : (o : Outcome) (stop : Option (List pure.Action)) → IsToldOrNoMemory s.search o → IsKeptStop s.search stop → HasStop s.script s.search.assertion o stop
  told_stop Holds stop told is = tt
  told_stop (Fails v) stop told is = tt
  told_stop (Unknown why) stop (inl ended) is = by_path why stop ended is
  told_stop (Unknown why) stop (inr e) is = no_memory stop why e
  told_stop Denied stop told is = tt

  -- where memory was refused
  pub stop_without_memory : (stop : Option (List pure.Action)) → HasStop s.script s.search.assertion (Unknown NoMemory) stop
  stop_without_memory stop = no_memory stop NoMemory refl

-- ---- an assertion

module _ (script : Script) (a : Assertion) (bounds : Bounds) where
  -- a search for it
  pub stop_for : (s : ScriptSearch) (o : Outcome) (stop : Option (List pure.Action)) → IsFor script a bounds s → HasStop s.script s.search.assertion o stop → HasStop script a o stop
  stop_for s o stop asked has =
      let P : Script → Type 0 = λ z. HasStop z s.search.assertion o stop in
      let Q : Assertion → Type 0 = λ z. HasStop script z o stop in
      subst Q asked.assertion (subst P asked.of_script has)

  -- none was begun
  pub not_begun_stop : (why : Why) → IsNotBegun script a bounds why → HasStop script a (Unknown why) None
  not_begun_stop why (inl form) = λ h e. (bounds.max_nodes, subst (HasNoForm script (specification_of a.property) bounds.max_nodes) (why_is why h e) form)
  not_begun_stop why (inr none) = λ h e. absurd (let g : hindrance NoMemory ≡ Some h = ap hindrance (sym none) ∙ e in cc g)
