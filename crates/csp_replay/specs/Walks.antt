-- Walks along the places that taus lead to.
use Rattle.std.specs.Prelude.{◌≡◌, ◌<◌, ℕ, List, length, slice_get, Some, Contains}
use Rattle.theory_search.specs.TauRanks.{number_at, taus_at}
use Rattle.theory_runs.specs.Lassos.{Walks}
use Rattle.csp_replay.specs.declared.walking.Walk.{Walk}

-- there are taus of n, and they lead to places below n
abbrev pub LeadInside : ℕ → List (List ℕ) → Type 0
LeadInside n taus = (length taus ≡ n) × ((i j : ℕ) → i < n → Contains (taus_at taus i) j → j < n)

-- one of the places has no number
abbrev pub HasLeft : List ℕ → List ℕ → Type 0
HasLeft numbers places = (j : ℕ) × Contains places j × (number_at numbers j ≡ 0)

-- the walk is along taus, by places below n, and comes back to one of them
abbrev pub ComesBack : {A : Type 0} → ℕ → List (List ℕ) → ℕ → Walk A → Type 0
ComesBack n taus start walk = (again : ℕ) × Walks taus start walk.places.items again × (slice_get walk.places.items walk.back ≡ Some again) × ((k p : ℕ) → slice_get walk.places.items k ≡ Some p → p < n)
