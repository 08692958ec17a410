-- Divergence that is told by a loop.
use Rattle.std.specs.Prelude.{◌≡◌, ◌<◌, ◌≤◌, ℕ, List, [], ◌∷◌, ◌++◌, length, map, replicate, slice_get, Some, Contains}
use Rattle.theory_syntax.specs.Value.{Action, Tau}
use Rattle.theory_syntax.specs.Process.{Process, Script}
use Rattle.theory_semantics.specs.Meaning.Transitions.{Step}
use Rattle.theory_semantics.specs.Meaning.Runs.{Run}
use Rattle.theory_semantics.specs.Meaning.Divergence.{Diverges}
use Rattle.theory_search.specs.Counting.{AreMoreThan}
use Rattle.theory_search.specs.Growth.{AreDistinct}
use Rattle.theory_search.specs.Search.{Row, Search}
use Rattle.theory_search.specs.Subsets.{IsByTaus, terms_at}
use Rattle.theory_search.specs.TauRanks.{taus_at, number_at, AreNumbered, IsNumberedOut, AreTaus}
use Rattle.theory_runs.specs.States.{Visits}

-- Taus lead from t through the states, and from the last of them back to the one at the place.
pub record IsLasso (script : Script) (t : Process) (states : List Process) (back : ℕ) (again : Process) : Type 0 where
  pub stands : slice_get states back ≡ Some again
  pub visits : Visits script t (replicate (length states) Tau) (states ++ again ∷ []) again

-- each state of the lasso diverges
abbrev pub EachDiverges : Script → List Process → Type 0
EachDiverges script states = (i : ℕ) (v : Process) → slice_get states i ≡ Some v → Diverges script v

-- taus of these terms lead to such terms alone
abbrev pub StayWithin : Script → List Process → Type 0
StayWithin script terms = (t u : Process) → Contains terms t → Step script t Tau u → Contains terms u

-- a lasso from t through some of the terms, with no more states than there are terms
pub record HasLassoWithin (script : Script) (terms : List Process) (t : Process) : Type 0 where
  pub states : List Process
  pub back : ℕ
  pub again : Process
  pub lasso : IsLasso script t states back again
  pub within : (i : ℕ) (v : Process) → slice_get states i ≡ Some v → Contains terms v
  pub short : length states ≤ length terms

-- ---- terms by their places

-- each of the places that are kept for a term is that of one which a tau leads to
abbrev pub LeadByTaus : Script → List Process → List (List ℕ) → Type 0
LeadByTaus script terms taus =
    (i : ℕ) (t : Process) → slice_get terms i ≡ Some t → (j : ℕ) → Contains (taus_at taus i) j → (u : Process) × (slice_get terms j ≡ Some u) × Step script t Tau u

-- so it is, and all that taus lead to have such a place; there is a number for each term
pub record AreTausAmong (script : Script) (terms : List Process) (taus : List (List ℕ)) (numbers : List ℕ) : Type 0 where
  pub leads : LeadByTaus script terms taus
  pub all : (i : ℕ) (t u : Process) → slice_get terms i ≡ Some t → Step script t Tau u → (j : ℕ) × Contains (taus_at taus i) j × (slice_get terms j ≡ Some u)
  pub same_length : length numbers ≡ length terms

-- the places of rows that taus lead to are those of their terms
abbrev pub RowsLeadByTaus : Script → List Row → Type 0
RowsLeadByTaus script rows = (taus : List (List ℕ)) (numbers : List ℕ) → AreTaus script rows taus numbers → LeadByTaus script (map (λ r. r.term) rows) taus

-- The places are those on a way from i on to k, by taus, k left out.
abbrev pub Walks : List (List ℕ) → ℕ → List ℕ → ℕ → Type 0
Walks taus i [] k = i ≡ k
Walks taus i (p ∷ places) k = (p ≡ i) × ((j : ℕ) × Contains (taus_at taus i) j × Walks taus j places k)

-- a way goes on by one more tau
abbrev pub WalksGoOn : List (List ℕ) → Type 0
WalksGoOn taus = (i k j : ℕ) (places : List ℕ) → Walks taus i places k → Contains (taus_at taus k) j → Walks taus i (places ++ k ∷ []) j

-- where it comes back to one of its places it is a lasso
abbrev pub WalksComeBack : Script → List Process → List (List ℕ) → Type 0
WalksComeBack script terms taus =
    (i k back : ℕ) (t again : Process) (places : List ℕ) → LeadByTaus script terms taus → slice_get terms i ≡ Some t → Walks taus i places k →
    slice_get places back ≡ Some k → slice_get terms k ≡ Some again →
    IsLasso script t (terms_at terms places) back again

-- a list of places below n, none twice, is at most n long
abbrev pub PlacesEnd : ℕ → List ℕ → Type 0
PlacesEnd n places = AreDistinct places → ((k p : ℕ) → slice_get places k ≡ Some p → p < n) → length places ≤ n

-- a term with a number does not diverge
abbrev pub NumberedTermsEnd : Script → List Process → List (List ℕ) → List ℕ → Type 0
NumberedTermsEnd script terms taus numbers =
    (next i : ℕ) (t : Process) → AreTausAmong script terms taus numbers → AreNumbered taus numbers next → slice_get terms i ≡ Some t →
    0 < number_at numbers i → ¬ Diverges script t

-- and one without does, where no more can be numbered
abbrev pub LeftTermsDiverge : Script → List Process → List (List ℕ) → List ℕ → Type 0
LeftTermsDiverge script terms taus numbers =
    (i : ℕ) (t : Process) → AreTausAmong script terms taus numbers → IsNumberedOut taus numbers → slice_get terms i ≡ Some t →
    number_at numbers i ≡ 0 → Diverges script t

-- ---- a search whose rows are all done

-- behind no path are there more terms, by taus, than there may be pairs
abbrev pub HasFewBehind : Script → Search → Type 0
HasFewBehind script s = (path : List Action) → ¬ AreMoreThan ◌≡◌ s.bounds.max_pairs (IsByTaus script (λ t. Run script s.assertion.implementation path t))
