-- Which side of an assertion has no answer.
use Rattle.std.proofs.Common.{◌≡◌, ℕ, ◌<◌, ◌⊎◌, inl, inr, List, ◌++◌, length, Option, Some, None, slice_get, take, drop, refl, sym, ◌∙◌, ap, subst, arith}
use Rattle.std.specs.declared.cmp.Ordering.TheVariants.{Equal}
use Rattle.std.specs.Ordering.{ordering_then}
use Rattle.std.specs.Cmp.{nat_cmp_is}
use Rattle.std.proofs.lemmas.List.{take-append-drop}
use Rattle.theory_syntax.specs.Value.{Action}
use Rattle.theory_syntax.specs.Process.{Process, Assertion, specification_of, Script}
use Rattle.theory_semantics.specs.Meaning.Transitions.{IsFaulty, IsStuck, faulty, large}
use Rattle.theory_semantics.specs.Meaning.Runs.{trace, IsAfter, IsKnown}
use Rattle.theory_semantics.specs.Meaning.Violations.{ByDeadlock, path_cmp, Violation}
use Rattle.theory_semantics.proofs.LeastViolations.{violation_ties}
use Rattle.theory_semantics.proofs.Running.{trace-append}
use Rattle.theory_search.specs.Answer.{NoNormalForm, StopsAt, many_nodes, faulty_state, large_state}
use Rattle.theory_search.specs.Counting.{AreMoreThan}
use Rattle.theory_search.specs.Outcome.{Why, Fault}
use Rattle.theory_search.specs.Search.{NormalForm, IsFormFor, Mark, Waiting, Done, Faulty, Large, Row, Search, Verdict, VerdictHolds, MarkHolds, IsLawful, recorded_path}
use Rattle.theory_search.proofs.Nodes.{along_known}
use Rattle.theory_search.proofs.Splitting.{after_split}
use Rattle.theory_runs.specs.Stuck.{Hindrance, ByCause, BySize, IsStuckBy}
use Rattle.theory_runs.specs.Runs.{HasNoStuckRun, HasNoneWithin, IsReached}
use Rattle.theory_runs.specs.Stops.{NeverSticks, StopsSearch, IsKnownAlong, why_of, mark_of, MarkedRowsStop, StoppedHaveRow, FirstStopsAreOne, NoFormHasMany, OneSideStops}
use Rattle.theory_runs.proofs.Forms.{free_is_not_stuck}

-- ---- traces of the specification

known_front : (script : Script) (spec : Option Process) (a b : List Action) → IsKnown script spec (a ++ b) → IsKnown script spec a
known_front script (Some spec) a b known = let h = after_split script a b spec known.0 known.1 in (h.0, h.1)
known_front script None a b known = tt

pub known_along : (script : Script) (a : Assertion) (h : Hindrance) (path : List Action) → StopsSearch script a h path → IsKnownAlong script a path
known_along script a h path is i =
    let whole : trace path ≡ trace (take i path) ++ trace (drop i path) = ap trace (sym (take-append-drop i path)) ∙ trace-append (take i path) (drop i path) in
    known_front script (specification_of a.property) (trace (take i path)) (trace (drop i path)) (subst (IsKnown script (specification_of a.property)) whole is.known)

-- ---- the specification of a search

-- where it has a normal form it is never stuck
pub never_sticks : (script : Script) (spec : Option Process) (normal : Option NormalForm) → IsFormFor script spec normal → NeverSticks script spec
never_sticks script (Some spec) (Some normal) is = λ path u run.
    let node = along_known script spec normal is (trace path) (u, (path, run, refl)) in
    let has = node.2 in
    is.not_stuck node.0 has.0 u has.1 ((has.2 u).1 (path, run, refl))
never_sticks script (Some spec) None is = absurd is
never_sticks script None normal is = tt

pub one_side : (script : Script) (a : Assertion) → OneSideStops script a
one_side script a spec h k path is stops other u run =
    free_is_not_stuck script u k (let S : Option Process → Type 0 = NeverSticks script in let never = subst S is stops.free in never other u run)

-- ---- rows

stuck_by_mark : (script : Script) (s : Search) (h : Hindrance) (r : Row) → r.mark ≡ mark_of h → MarkHolds script s r r.mark → IsStuckBy script r.term h
stuck_by_mark script s (ByCause c) r is holds = let M : Mark → Type 0 = MarkHolds script s r in subst M is holds
stuck_by_mark script s BySize r is holds = let M : Mark → Type 0 = MarkHolds script s r in subst M is holds

pub marked_stop : (script : Script) (s : Search) → IsLawful script s → MarkedRowsStop script s
marked_stop script s lawful h i r at is = record {
  end = r.term;
  run = (lawful.reached i r at).run;
  known = (lawful.reached i r at).known;
  stuck = stuck_by_mark script s h r is (lawful.marks i r at);
  free = never_sticks script (specification_of s.assertion.property) s.normal lawful.normal;
}

pub stopped_have_row : (script : Script) (s : Search) → IsLawful script s → StoppedHaveRow s
stopped_have_row script s lawful (ByCause c) stopped =
    let V : Verdict → Type 0 = VerdictHolds script s in
    let is = (subst V stopped lawful.verdict).2 in
    (is.0, is.1, is.2, is.3.0)
stopped_have_row script s lawful BySize stopped =
    let V : Verdict → Type 0 = VerdictHolds script s in
    let is = (subst V stopped lawful.verdict).2 in
    is.1

module _ (script : Script) (s : Search) (lawful : IsLawful script s) where
  -- a row that is stuck is of the level in work
  of_level : (h : Hindrance) (i : ℕ) (r : Row) → slice_get s.rows i ≡ Some r → r.mark ≡ mark_of h → r.level ≡ s.level
  of_level h i r at is = by (cases r.level s.level)
    where
      cases : (m n : ℕ) → (m < n) ⊎ ((n < m) ⊎ (m ≡ n))
      cases m n = grind arith

      not_done : (k : Hindrance) → r.mark ≡ mark_of k → r.mark ≡ Done → ⊥
      not_done (ByCause c) e f = let g : Faulty c ≡ Done = sym e ∙ f in cc g
      not_done BySize e f = let g : Large ≡ Done = sym e ∙ f in cc g

      not_waiting : (k : Hindrance) → r.mark ≡ mark_of k → r.mark ≡ Waiting → ⊥
      not_waiting (ByCause c) e f = let g : Faulty c ≡ Waiting = sym e ∙ f in cc g
      not_waiting BySize e f = let g : Large ≡ Waiting = sym e ∙ f in cc g

      by : (r.level < s.level) ⊎ ((s.level < r.level) ⊎ (r.level ≡ s.level)) → r.level ≡ s.level
      by (inl before) = absurd (not_done h is (lawful.levelled.before i r at before))
      by (inr (inl after)) = absurd (not_waiting h is (lawful.levelled.after i r at after))
      by (inr (inr same)) = same

  pub first_stops_are_one : FirstStopsAreOne s
  first_stops_are_one h r q one other =
      let a = one.first other.place q other.stands other.marked in
      let b = other.first one.place r one.stands one.marked in
      let level = of_level h one.place r one.stands one.marked in
      let beside = of_level h other.place q other.stands other.marked in
      let tied : path_cmp (recorded_path s.rows r) (recorded_path s.rows q) ≡ Equal =
      sym (lawful.levelled.ranks one.place r one.stands other.place q other.stands (omega (arith, level)) (level ∙ sym beside)) ∙ sym (nat_cmp_is r.rank q.rank Equal (omega (arith, a, b))) in
      let v : Violation = record { path = recorded_path s.rows r; evidence = ByDeadlock } in
      let w : Violation = record { path = recorded_path s.rows q; evidence = ByDeadlock } in
      ap (λ z. z.path) (violation_ties v w (ap (λ o. ordering_then o Equal) tied))

-- ---- the specification alone

module _ (script : Script) (spec : Process) (n m : ℕ) where
  stuck_run : (h : Hindrance) (why : Why) → why ≡ why_of h → NoNormalForm script spec m why → HasNoStuckRun script spec h → ⊥
  stuck_run (ByCause c) why e (many_nodes k least many) none = cc e
  stuck_run BySize why e (many_nodes k least many) none = cc e
  stuck_run (ByCause c) why e (faulty_state k d least few lowest) none =
      let f : Fault d ≡ Fault c = e in
      let g : d ≡ c = cc f in
      let some = lowest.some in
      none some.3.0 some.1 some.3.1 (subst (IsFaulty script some.1) g some.4)
  stuck_run BySize why e (faulty_state k d least few lowest) none = cc e
  stuck_run (ByCause c) why e (large_state k least few no_cause) none = cc e
  stuck_run BySize why e (large_state k least few no_cause) none = by least.here
    where
      stuck : (s : List Action) (u : Process) → length s ≡ k → IsAfter script spec s u → IsStuck script u → ⊥
      stuck s u long after (faulty c is) = no_cause c (s, u, long, after, is)
      stuck s u long after (large is) = none after.0 u after.1 is

      by : StopsAt script spec m k → ⊥
      by (inl many) = few many
      by (inr some) = stuck some.0 some.1 some.2 some.3 some.4

  pub no_form_many : (h : Hindrance) → NoNormalForm script spec m (why_of h) → HasNoneWithin script spec h n → AreMoreThan ◌≡◌ n (IsReached script spec)
  no_form_many h no_form (inl none) = absurd (stuck_run h (why_of h) refl no_form none)
  no_form_many h no_form (inr many) = many

pub no_form_has_many : (script : Script) (spec : Process) → NoFormHasMany script spec
no_form_has_many script spec n m h no_form none = no_form_many script spec n m h no_form none
