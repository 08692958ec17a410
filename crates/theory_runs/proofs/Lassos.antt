-- Divergence that is told by a loop.
use Rattle.std.proofs.Common.{◌≡◌, ℕ, zero, suc, ◌<◌, ◌≤◌, ◌+◌, List, [], ◌∷◌, ◌++◌, length, replicate, get_or, slice_get, Some, Contains, ◌⊎◌, ⊎_elim, inl, inr, refl, sym, ◌∙◌, ap, subst, arith}
use Rattle.std.proofs.lemmas.Option.{slice_get_within, slice_get-get_or, get_or_from_slice_get}
use Rattle.theory_syntax.specs.Value.{Tau}
use Rattle.theory_syntax.specs.Process.{Process, Stop, Script}
use Rattle.theory_syntax.proofs.Places.{get_cases, get_end, get_front, get_map, get_some, same_at}
use Rattle.theory_semantics.specs.Meaning.Transitions.{Step}
use Rattle.theory_semantics.specs.Meaning.Runs.{Run}
use Rattle.theory_semantics.specs.Meaning.Divergence.{Diverges}
use Rattle.theory_semantics.proofs.Rising.{stands_from_Contains, Contains-from_stands}
use Rattle.theory_search.specs.Search.{Row}
use Rattle.theory_search.specs.Growth.{AreDistinct}
use Rattle.theory_search.specs.Subsets.{terms_at}
use Rattle.theory_search.specs.TauRanks.{taus_at, number_at, AreNumbered}
use Rattle.theory_search.proofs.Pigeonholes.{no_more_below}
use Rattle.theory_runs.specs.States.{Visits}
use Rattle.theory_runs.specs.Lassos.{IsLasso, EachDiverges, StayWithin, HasLassoWithin, LeadByTaus, AreTausAmong, RowsLeadByTaus, Walks, WalksGoOn, WalksComeBack, PlacesEnd, NumberedTermsEnd, LeftTermsDiverge}
use Rattle.theory_runs.proofs.Visiting.{step_by_step}

-- ---- sets of terms that taus stay in

module _ (script : Script) (P : Process → Type 0) (on : (t : Process) → P t → (u : Process) × P u × Step script t Tau u) where
  pub runs_on : (n : ℕ) (t : Process) → P t → (u : Process) × Run script t (replicate n Tau) u
  runs_on zero t here = (t, refl)
  runs_on (suc n) t here = let next = on t here in let rest = runs_on n next.0 next.1 in (rest.0, (next.0, next.2, rest.1))

get_replicate : {X : Type 0} (n i : ℕ) (x : X) → i < n → slice_get (replicate n x) i ≡ Some x
get_replicate zero i x low = absurd (omega (arith, low))
get_replicate (suc n) zero x low = refl
get_replicate (suc n) (suc i) x low = get_replicate n i x (omega (arith, low))

-- ---- a lasso diverges

module _ (script : Script) (t : Process) (states : List Process) (back : ℕ) (again : Process) (lasso : IsLasso script t states back again) where
  next : (v : Process) → Contains states v → (w : Process) × Contains states w × Step script v Tau w
  next v c =
      let at = stands_from_Contains states v c in
      let inside = slice_get_within states at.0 v at.1 in
      let step = step_by_step script (replicate (length states) Tau) t again (states ++ again ∷ []) lasso.visits at.0 Tau (get_replicate (length states) at.0 Tau inside) in
      let here : step.0 ≡ v = same_at (states ++ again ∷ []) at.0 at.0 step.0 v refl step.2 (get_front states (again ∷ []) at.0 v at.1) in
      (step.1, ⊎_elim (λ h. Contains-from_stands states step.1 (suc at.0, h)) (λ h. Contains-from_stands states step.1 (back, lasso.stands ∙ ap Some (sym h.1))) (get_cases states again (suc at.0) step.1 step.3), subst (λ u. Step script u Tau step.1) here step.4)

  pub each_diverges : EachDiverges script states
  each_diverges i v at = λ n. runs_on script (Contains states) next n v (Contains-from_stands states v (i, at))

-- ---- one more tau

pub visits_tau : (script : Script) (n : ℕ) (t u v : Process) (states : List Process) → Visits script t (replicate n Tau) (states ++ u ∷ []) u → length states ≡ n → Step script u Tau v →
    Visits script t (replicate (suc n) Tau) ((states ++ u ∷ []) ++ v ∷ []) v
visits_tau script zero t u v [] visits long step =
    let same = visits.1 in (v, v ∷ [], (ap (λ s. s ∷ v ∷ []) (sym same)), subst (λ s. Step script s Tau v) (sym same) step, (refl, refl))
visits_tau script zero t u v (s ∷ states) visits long step = absurd (cc long)
visits_tau script (suc n) t u v [] visits long step = absurd (cc long)
visits_tau script (suc n) t u v (s ∷ states) visits long step =
    let e : s ∷ (states ++ u ∷ []) ≡ t ∷ visits.1 = visits.2 in
    let first : s ≡ t = cc e in
    let others : states ++ u ∷ [] ≡ visits.1 = cc e in
    let rest = visits_tau script n visits.0 u v states (subst (λ ss. Visits script visits.0 (replicate n Tau) ss u) (sym others) visits.4) (cc long) step in
    (visits.0, (states ++ u ∷ []) ++ v ∷ [], ap (λ z. z ∷ ((states ++ u ∷ []) ++ v ∷ [])) first, visits.3, rest)

-- ---- places that come once

pub places_end : (n : ℕ) (places : List ℕ) → PlacesEnd n places
places_end n places distinct below = by (length places) refl
  where
    low : (m k : ℕ) → (m ≤ k) ⊎ (k < m)
    low m k = grind arith

    by : (m : ℕ) → length places ≡ m → length places ≤ n
    by m e = ⊎_elim (λ h. h) (λ many. absurd (no_more_below n (places, many, record { each = λ k p at. below k p at; apart = λ i j x y at there same. distinct i j y (at ∙ ap Some same) there }))) (low (length places) n)

-- ---- where terms are finitely many

long_by_one : {X : Type 0} (xs : List X) (x : X) → length (xs ++ x ∷ []) ≡ suc (length xs)
long_by_one [] x = refl
long_by_one (y ∷ xs) x = ap suc (long_by_one xs x)

-- a number stands in a list, or it does not
stands_or_not : (xs : List ℕ) (n : ℕ) → ((i : ℕ) × (slice_get xs i ≡ Some n)) ⊎ ((i : ℕ) → slice_get xs i ≡ Some n → ⊥)
stands_or_not [] n = inr (λ i at. absurd (cc at))
stands_or_not (x ∷ xs) n = by (same_or_not x n) (stands_or_not xs n)
  where
    same_or_not : (m k : ℕ) → (m ≡ k) ⊎ (m ≡ k → ⊥)
    same_or_not zero zero = inl refl
    same_or_not zero (suc k) = inr (λ e. absurd (omega (arith, e)))
    same_or_not (suc m) zero = inr (λ e. absurd (omega (arith, e)))
    same_or_not (suc m) (suc k) = ⊎_elim (λ e. inl (ap suc e)) (λ other. inr (λ e. other (omega (arith, e)))) (same_or_not m k)

    not_here : ¬ (x ≡ n) → ((i : ℕ) → slice_get xs i ≡ Some n → ⊥) → (i : ℕ) → slice_get (x ∷ xs) i ≡ Some n → ⊥
    not_here other none zero at = let f : Some x ≡ Some n = at in other (cc f)
    not_here other none (suc i) at = none i at

    by : (x ≡ n) ⊎ (x ≡ n → ⊥) → ((i : ℕ) × (slice_get xs i ≡ Some n)) ⊎ ((i : ℕ) → slice_get xs i ≡ Some n → ⊥) → ((i : ℕ) × (slice_get (x ∷ xs) i ≡ Some n)) ⊎ ((i : ℕ) → slice_get (x ∷ xs) i ≡ Some n → ⊥)
    by (inl e) h = inl (0, ap Some e)
    by (inr other) (inl h) = inl (suc h.0, h.1)
    by (inr other) (inr none) = inr (not_here other none)

-- one more place that is new
more_distinct : (places : List ℕ) (p : ℕ) → AreDistinct places → ((i : ℕ) → slice_get places i ≡ Some p → ⊥) → AreDistinct (places ++ p ∷ [])
more_distinct places p distinct fresh i j x at there = by (get_cases places p i x at) (get_cases places p j x there)
  where
    by : (slice_get places i ≡ Some x) ⊎ ((i ≡ length places) × (x ≡ p)) → (slice_get places j ≡ Some x) ⊎ ((j ≡ length places) × (x ≡ p)) → i ≡ j
    by (inl h) (inl k) = distinct i j x h k
    by (inl h) (inr k) = absurd (fresh i (h ∙ ap Some k.1))
    by (inr h) (inl k) = absurd (fresh j (k ∙ ap Some h.1))
    by (inr h) (inr k) = h.0 ∙ sym k.0

module _ (script : Script) (terms : List Process) (stay : StayWithin script terms) (t : Process) where
  -- each state stands at its place among the terms
  abbrev StandAt : List Process → List ℕ → Type 0
  StandAt states places = (i : ℕ) (v : Process) → slice_get states i ≡ Some v → (p : ℕ) × (slice_get places i ≡ Some p) × (slice_get terms p ≡ Some v)

  more_stand : (states : List Process) (places : List ℕ) (v : Process) (p : ℕ) → StandAt states places → length places ≡ length states → slice_get terms p ≡ Some v → StandAt (states ++ v ∷ []) (places ++ p ∷ [])
  more_stand states places v p stand even at i u there = by (get_cases states v i u there)
    where
      by : (slice_get states i ≡ Some u) ⊎ ((i ≡ length states) × (u ≡ v)) → (q : ℕ) × (slice_get (places ++ p ∷ []) i ≡ Some q) × (slice_get terms q ≡ Some u)
      by (inl h) = let k = stand i u h in (k.0, get_front places (p ∷ []) i k.0 k.1, k.2)
      by (inr h) = (p, subst (λ m. slice_get (places ++ p ∷ []) m ≡ Some p) (even ∙ sym h.0) (get_end places p), at ∙ ap Some (sym h.1))

  -- what taus led through so far, each state once, and where they are
  record Comes (states : List Process) (places : List ℕ) (here : Process) : Type 0 where
    visits : Visits script t (replicate (length states) Tau) (states ++ here ∷ []) here
    stand : StandAt states places
    even : length places ≡ length states
    distinct : AreDistinct places
    below : (k p : ℕ) → slice_get places k ≡ Some p → p < length terms
    there : Contains terms here

  module _ (states : List Process) (places : List ℕ) (here : Process) (is : Comes states places here) (p : ℕ) (at : slice_get terms p ≡ Some here) where
    few : length places ≤ length terms
    few = places_end (length terms) places is.distinct is.below

    -- back at a state that was there
    closes : (k : ℕ) → slice_get places k ≡ Some p → HasLassoWithin script terms t
    closes k found = record {
      states = states;
      back = k;
      again = here;
      lasso = record { stands = read ∙ ap Some (same_at terms stood.0 p _ here same stood.2 at); visits = is.visits };
      within = λ i v there. let h = is.stand i v there in Contains-from_stands terms v (h.0, h.2);
      short = (let f = few in let e = is.even in omega (arith, f, e));
    }
      where
        read : slice_get states k ≡ Some (get_or states k Stop)
        read = let inside = slice_get_within places k p found in let e = is.even in slice_get-get_or states k Stop (omega (arith, inside, e))

        stood : (q : ℕ) × (slice_get places k ≡ Some q) × (slice_get terms q ≡ Some (get_or states k Stop))
        stood = is.stand k (get_or states k Stop) read

        same : stood.0 ≡ p
        same = same_at places k k stood.0 p refl stood.1 found

    -- one more tau
    comes_on : (to : Process) → Step script here Tau to → ((i : ℕ) → slice_get places i ≡ Some p → ⊥) → Comes (states ++ here ∷ []) (places ++ p ∷ []) to
    comes_on to step fresh = record {
      visits = subst (λ k. Visits script t (replicate k Tau) ((states ++ here ∷ []) ++ to ∷ []) to) (sym (long_by_one states here)) (visits_tau script (length states) t here to states is.visits refl step);
      stand = more_stand states places here p is.stand is.even at;
      even = long_by_one places p ∙ ap suc is.even ∙ sym (long_by_one states here);
      distinct = more_distinct places p is.distinct fresh;
      below = λ k q stands. ⊎_elim (λ h. is.below k q h) (λ h. let e : q ≡ p = h.1 in let inside = slice_get_within terms p here at in omega (arith, e, inside)) (get_cases places p k q stands);
      there = stay here to is.there step;
    }

  -- a run of taus that is long enough comes back
  comes_back : (n : ℕ) (states : List Process) (places : List ℕ) (here end : Process) → Comes states places here → Run script here (replicate n Tau) end → length terms < n + length states → HasLassoWithin script terms t
  comes_back zero states places here end is run many =
      let f = few states places here is (stands_from_Contains terms here is.there).0 (stands_from_Contains terms here is.there).1 in let e = is.even in absurd (omega (arith, f, e, many))
  comes_back (suc n) states places here end is run many =
      let at = stands_from_Contains terms here is.there in
      let long = long_by_one states here in
      ⊎_elim (λ h. closes states places here is at.0 at.1 h.0 h.1)
      (λ fresh. comes_back n (states ++ here ∷ []) (places ++ at.0 ∷ []) run.0 end (comes_on states places here is at.0 at.1 run.0 run.1 fresh) run.2 (omega (arith, many, long)))
      (stands_or_not places at.0)

  pub has_lasso : Contains terms t → Diverges script t → HasLassoWithin script terms t
  has_lasso there long =
      let run = long (suc (length terms)) in
      comes_back (suc (length terms)) [] [] t run.0
      (record {
        visits = (refl, refl);
        stand = λ i v at. absurd (cc at);
        even = refl;
        distinct = λ i j x at to. absurd (cc at);
        below = λ k p at. absurd (cc at);
        there = there;
      }) run.1 (omega arith)

-- ---- walks

pub walks_go_on : (taus : List (List ℕ)) → WalksGoOn taus
walks_go_on taus i k j [] walks leads = (sym walks, (j, subst (λ p. Contains (taus_at taus p) j) (sym walks) leads, refl))
walks_go_on taus i k j (p ∷ places) walks leads = (walks.0, (walks.1.0, walks.1.1, walks_go_on taus walks.1.0 k j places walks.1.2 leads))

module _ (script : Script) (terms : List Process) (taus : List (List ℕ)) (leads : LeadByTaus script terms taus) where
  walk_visits : (places : List ℕ) (i k : ℕ) (t again : Process) → slice_get terms i ≡ Some t → Walks taus i places k → slice_get terms k ≡ Some again →
      Visits script t (replicate (length (terms_at terms places)) Tau) (terms_at terms places ++ again ∷ []) again
  walk_visits [] i k t again at walks there = let same : t ≡ again = same_at terms i k t again walks at there in (ap (λ s. s ∷ []) (sym same), same)
  walk_visits (p ∷ places) i k t again at walks there =
      let next = leads i t at walks.1.0 walks.1.1 in
      let first : get_or terms p Stop ≡ t = get_or_from_slice_get terms p t Stop (ap (slice_get terms) walks.0 ∙ at) in
      (next.0, terms_at terms places ++ again ∷ [], ap (λ z. z ∷ (terms_at terms places ++ again ∷ [])) first, next.2, walk_visits places walks.1.0 k next.0 again next.1 walks.1.2 there)

pub walks_come_back : (script : Script) (terms : List Process) (taus : List (List ℕ)) → WalksComeBack script terms taus
walks_come_back script terms taus i k back t again places leads at walks back_to there = record {
  stands = get_some (λ p. get_or terms p Stop) places back k back_to ∙ ap Some (get_or_from_slice_get terms k again Stop there);
  visits = walk_visits script terms taus leads places i k t again at walks there;
}

-- ---- numbers

pub left_terms : (script : Script) (terms : List Process) (taus : List (List ℕ)) (numbers : List ℕ) → LeftTermsDiverge script terms taus numbers
left_terms script terms taus numbers i t are out at none = λ n. runs_on script Left on n t (i, at, none)
  where
    Left : Process → Type 0
    Left v = (j : ℕ) × (slice_get terms j ≡ Some v) × (number_at numbers j ≡ 0)

    on : (v : Process) → Left v → (u : Process) × Left u × Step script v Tau u
    on v (j, there, without) =
        let inside = slice_get_within terms j v there in
        let l = are.same_length in
        let next = out j (omega (arith, inside, l)) without in
        let h = are.leads j v there next.0 next.1 in
        (h.0, (next.0, h.1, next.2), h.2)

module _ (script : Script) (terms : List Process) (taus : List (List ℕ)) (numbers : List ℕ) (are : AreTausAmong script terms taus numbers) (next : ℕ) (is : AreNumbered taus numbers next) where
  runs_end : (n i : ℕ) (t u : Process) → slice_get terms i ≡ Some t → 0 < number_at numbers i → Run script t (replicate n Tau) u → n ≤ number_at numbers i
  runs_end zero i t u at some run = omega arith
  runs_end (suc n) i t u at some run =
      let to = are.all i t run.0 at run.1 in
      let rest = runs_end n to.0 run.0 u to.2 (is.there i to.0 some to.1) run.2 in
      let less = is.falls i to.0 some to.1 in
      omega (arith, rest, less)

pub numbered_terms : (script : Script) (terms : List Process) (taus : List (List ℕ)) (numbers : List ℕ) → NumberedTermsEnd script terms taus numbers
numbered_terms script terms taus numbers next i t are is at some long =
    let run = long (suc (number_at numbers i)) in
    let short = runs_end script terms taus numbers are next is (suc (number_at numbers i)) i t run.0 at some run.1 in
    omega (arith, short)

-- ---- rows

pub rows_lead : (script : Script) (rows : List Row) → RowsLeadByTaus script rows
rows_lead script rows taus numbers are i t at j c =
    let row = get_map (λ r. r.term) rows i t at in
    let leads = (are.each i row.0 row.1 j).0 c in
    let same : leads.0.term ≡ t = ap (λ r. r.term) (same_at rows i i leads.0 row.0 refl leads.2 row.1) ∙ row.2 in
    (leads.1.term, get_some (λ r. r.term) rows j leads.1 leads.3, subst (λ s. Step script s Tau leads.1.term) same leads.4)
