-- The bytes round places.
use Rattle.std.specs.Prelude.{ℕ, ◌-◌, ◌≤◌, List, [], ◌∷◌, drop, take}
use Rattle.csp_rows.specs.declared.places.Place.{Place}

-- the bytes from here on that stand before, between and behind the places
abbrev pub cut_from : ℕ → List ℕ → List Place → List (List ℕ)
cut_from here bytes [] = drop here bytes ∷ []
cut_from here bytes (p ∷ ps) = take (p.start - here) (drop here bytes) ∷ cut_from p.end bytes ps

-- places that go from left to right, from here on, within so many bytes
abbrev pub ArePlacesIn : ℕ → ℕ → List Place → Type 0
ArePlacesIn here n [] = here ≤ n
ArePlacesIn here n (p ∷ ps) = (here ≤ p.start) × (p.start ≤ p.end) × ArePlacesIn p.end n ps
