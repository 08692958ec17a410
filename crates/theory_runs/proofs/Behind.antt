-- What is behind a path in a search whose rows are all done.
use Rattle.std.proofs.Common.{◌≡◌, ℕ, ◌<◌, ◌≤◌, List, [], ◌∷◌, length, Some, slice_get, refl, sym, ◌∙◌, ap, subst, arith}
use Rattle.std.proofs.lemmas.Option.{slice_get_within}
use Rattle.theory_syntax.specs.Value.{Action}
use Rattle.theory_syntax.specs.Process.{Process, DivergenceFree, Property, Script}
use Rattle.theory_syntax.proofs.Places.{same_at}
use Rattle.theory_semantics.specs.Meaning.Transitions.{Step}
use Rattle.theory_semantics.specs.Meaning.Runs.{Run}
use Rattle.theory_search.specs.Counting.{AreMoreThan}
use Rattle.theory_search.specs.Search.{AllDone, AllStored, EachRow, EndedFails, IsLawful, Mark, MarkHolds, MayFail, Row, Search, SomeRow, Verdict, VerdictHolds}
use Rattle.theory_search.specs.Subsets.{IsByTaus}
use Rattle.theory_search.proofs.Pigeonholes.{no_more_than_places}
use Rattle.theory_runs.specs.Lassos.{HasFewBehind}

module _ (script : Script) (s : Search) (all : EachRow s.rows (AllStored script s)) where
  -- a run from a row ends at a row
  covered : (path : List Action) (i : ℕ) (r : Row) (t u : Process) → slice_get s.rows i ≡ Some r → r.term ≡ t → Run script t path u → SomeRow s.rows (λ q. q.term ≡ u)
  covered [] i r t u at is run = (i, r, at, is ∙ run)
  covered (x ∷ path) i r t u at is (mid, step, rest) =
      let S : Process → Type 0 = λ p. Step script p x mid in
      let stored = (all i r at x mid (subst S (sym is) step)).2 in
      covered path stored.0 stored.1 mid u stored.2 stored.4 rest

  few : (first : Row) → slice_get s.rows 0 ≡ Some first → first.term ≡ s.assertion.implementation → (path : List Action) (n : ℕ) → length s.rows ≤ n →
      ¬ AreMoreThan ◌≡◌ n (IsByTaus script (λ t. Run script s.assertion.implementation path t))
  few first at is path n room more =
      no_more_than_places At ◌≡◌ (IsByTaus script (λ t. Run script s.assertion.implementation path t)) (length s.rows) place
      (λ x z k h l. sym h.2 ∙ ap (λ r. r.term) (same_at s.rows k k h.0 l.0 refl h.1 l.1) ∙ l.2)
      (more.0, (let many = more.1 in omega (arith, many, room)), more.2)
    where
      At : Process → ℕ → Type 0
      At x k = (r : Row) × (slice_get s.rows k ≡ Some r) × (r.term ≡ x)

      place : (x : Process) → IsByTaus script (λ t. Run script s.assertion.implementation path t) x → (k : ℕ) × (k < length s.rows) × At x k
      place x (t, run, after) =
          let row = covered path 0 first s.assertion.implementation t at is run in
          let end = covered after.0 row.0 row.1 t x row.2 row.3 after.1 in
          (end.0, slice_get_within s.rows end.0 end.1 end.2, (end.1, end.2, end.3))

pub few_behind : (script : Script) (s : Search) → IsLawful script s → AllDone s → HasFewBehind script s
few_behind script s lawful done path =
    let all : EachRow s.rows (AllStored script s) = λ i r at. (let P : Mark → Type 0 = MarkHolds script s r in subst P (done i r at) (lawful.marks i r at)).2 in
    let first = lawful.rooted.first in
    few script s all first.0 first.1 first.5 path s.bounds.max_pairs lawful.room

-- a search for divergence that fails has all rows done
pub failed_done : (script : Script) (s : Search) (i : ℕ) → IsLawful script s → s.assertion.property ≡ DivergenceFree → s.verdict ≡ EndedFails i → AllDone s
failed_done script s i lawful is fails =
    let V : Verdict → Type 0 = VerdictHolds script s in
    let P : Property → Type 0 = λ p. MayFail script p s i in
    (subst P is (subst V fails lawful.verdict)).0
