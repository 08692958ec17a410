-- Where the parts of a process are spelled.
use Rattle.std.specs.Prelude.{ℕ, suc, ◌+◌, List, [], ◌∷◌, ◌++◌, length}
use Rattle.theory_syntax.specs.Process.{Process, Interleaving, GeneralisedParallel, AlphabetisedParallel, Hiding, Renaming}
use Rattle.theory_spelling.specs.Spelling.{spelling}
use Rattle.theory_shapes.specs.Pieces.{between_sides}
use Rattle.theory_shapes.specs.Shape.{Composition, Interleaved, Generalised, Alphabetised}
use Rattle.csp_rows.specs.declared.places.Place.{Place}

-- where the right side is spelled, where the whole is spelled from this place on
abbrev pub right_start : ℕ → Composition → Process → ℕ
right_start start c p = suc start + length (spelling p) + length (between_sides c)

-- the places of the parts, from the left, where the process is spelled from this place on
abbrev pub places_in : ℕ → Process → List Place
places_in start (Interleaving p q) = places_in (suc start) p ++ places_in (right_start start Interleaved p) q
places_in start (GeneralisedParallel p a q) = places_in (suc start) p ++ places_in (right_start start (Generalised a) p) q
places_in start (AlphabetisedParallel p a b q) = places_in (suc start) p ++ places_in (right_start start (Alphabetised a b) p) q
places_in start (Hiding p a) = places_in (suc start) p
places_in start (Renaming p rs) = places_in (suc start) p
places_in start p = record { start = start; end = start + length (spelling p) } ∷ []
